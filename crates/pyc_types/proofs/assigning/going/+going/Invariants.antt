use Rattle.std.proofs.Common.{◌≡◌, drop}
use Rattle.pyc_class_ids.specs.Mro.{order_of}
use Rattle.pyc_type_forms.specs.TypeView.{row}
use Rattle.pyc_types.specs.Going.{goes_by_some}
use Rattle.pyc_types.proofs.assigning.going.+going.Given as goal

-- the items left decide
abbrev pub invariant-goes_by_some-loop-item : goal.invariant-goes_by_some-loop-item
invariant-goes_by_some-loop-item l =
    goes_by_some (order_of l.order) (row (drop l.item-index l.items)) ≡ goes_by_some (order_of l.order) (row l.items)
