use Rattle.std.proofs.Common.{◌≡◌, ◌++◌, map, flat_map, drop}
use Rattle.pyc_bindings.specs.Scopes.{Part}
use Rattle.pyc_bindings.specs.ScopeView.{part_of}
use Rattle.pyc_functions.specs.FunctionNames.{part_globals}
use Rattle.pyc_functions.proofs.function_names.global_names.Given as goal

-- the names so far, with those of the parts that are left, are those of all parts
abbrev pub invariant-loop-part : goal.invariant-loop-part
invariant-loop-part l =
    let each = λ (found : Part). part_globals found.form in
    l.names.items ++ flat_map each (map part_of (drop l.part-index l.part-items))
    ≡ flat_map each (map part_of l.part-items)
