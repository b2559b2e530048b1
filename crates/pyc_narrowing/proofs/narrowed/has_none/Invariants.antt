use Rattle.std.proofs.Common.{◌≡◌, map, drop}
use Rattle.std.specs.List.{list_any}
use Rattle.pyc_narrowing.specs.SplitStates.{may_be_none}
use Rattle.pyc_type_forms.specs.TypeView.{ty_of}
use Rattle.pyc_narrowing.proofs.narrowed.has_none.Given as goal

-- the items that are left decide
abbrev pub invariant-loop-item : goal.invariant-loop-item
invariant-loop-item l = list_any may_be_none (map ty_of (drop l.item-index l.items)) ≡ list_any may_be_none (map ty_of l.items)
