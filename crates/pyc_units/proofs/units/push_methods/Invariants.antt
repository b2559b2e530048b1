use Rattle.std.proofs.Common.{◌≡◌, ◌++◌, map, flat_map, drop}
use Rattle.pyc_ast.specs.StatementView.{stmt_of}
use Rattle.pyc_bindings.specs.Scopes.{Part}
use Rattle.pyc_bindings.specs.ScopeView.{part_of}
use Rattle.pyc_units.specs.Units.{part_methods}
use Rattle.pyc_units.specs.UnitView.{unit_of}
use Rattle.pyc_units.proofs.units.push_methods.Given as goal

-- the units so far, with the methods among the parts that are left, are all
abbrev pub invariant-loop-part : goal.invariant-loop-part
invariant-loop-part l =
    let each = λ (part : Part). part_methods (stmt_of l.class) part.form in
    map unit_of l.units.items ++ flat_map each (map part_of (drop l.part-index l.part-items))
    ≡ map unit_of l.fn.units.items ++ flat_map each (map part_of l.part-items)
