use Rattle.std.proofs.Common.{◌≡◌, ◌++◌, map, drop}
use Rattle.pyc_ast.specs.StatementView.{import_from_of}
use Rattle.pyc_bindings.specs.Bindings.{imported_binding}
use Rattle.pyc_bindings.specs.BindingView.{binding_of}
use Rattle.pyc_bindings.proofs.bindings.push_imported.Given as goal

-- the bindings so far, with those of the names that are left, are all
abbrev pub invariant-loop-alias : goal.invariant-loop-alias
invariant-loop-alias l =
    let each = imported_binding l.place (import_from_of l.from.value) in
    map binding_of l.found.items ++ map each (drop l.alias-index l.alias-items)
    ≡ map binding_of l.fn.found.items ++ map each l.alias-items
