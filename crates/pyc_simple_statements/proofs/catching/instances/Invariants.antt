use Rattle.std.proofs.Common.{◌≡◌, ◌++◌, map, drop}
use Rattle.pyc_simple_statements.specs.Heads.{row_instances}
use Rattle.pyc_type_forms.specs.TypeView.{row, ty_of}
use Rattle.pyc_simple_statements.proofs.catching.instances.Given as goal

-- what was found, and what the items left catch, are all
abbrev pub invariant-loop-item : goal.invariant-loop-item
invariant-loop-item l =
    map ty_of l.types.items ++ row_instances (row (drop l.item-index l.items)) ≡ row_instances (row l.items)
