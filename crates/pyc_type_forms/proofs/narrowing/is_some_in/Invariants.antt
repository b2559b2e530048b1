use Rattle.std.proofs.Common.{◌≡◌, drop}
use Rattle.std.specs.List.{list_any}
use Rattle.pyc_class_ids.specs.Mro.{order_of, order_contains}
use Rattle.pyc_type_forms.proofs.narrowing.is_some_in.Given as goal

-- the classes that are left decide
abbrev pub invariant-loop-class : goal.invariant-loop-class
invariant-loop-class l =
    list_any (order_contains (order_of l.order)) (drop l.class-index l.classes)
    ≡ list_any (order_contains (order_of l.order)) l.classes
