-- The order of a class: the class itself, then its ancestors in method resolution order
-- (Python language reference, "Data model", `type.__mro__`).
use Rattle.std.specs.Prelude.{List, Bool, Option, is_some}
use Rattle.std.specs.List.{list_any}
use Rattle.pyc_class_ids.specs.Class.{Id, same_class}
use Rattle.pyc_class_ids.specs.declared.order.Lin.{Lin}
use Rattle.pyc_class_ids.specs.declared.order.UnknownMro.{UnknownMro}

-- the order of one class: its classes, why it is not known, and whether an instance of it has a member `__call__`
pub record Mro : Type 0 where
  pub classes : List Id
  pub unknown : Option UnknownMro
  pub has_call : Bool

-- the order of each class
abbrev pub MroTable : Type 0
MroTable = Id → Mro

-- the order that a `Lin` holds
abbrev pub order_of : Lin → Mro
order_of lin = record { classes = lin.classes.now; unknown = lin.unknown; has_call = lin.has_call }

-- whether an order is not known
abbrev pub is_unknown : Mro → Bool
is_unknown order = is_some order.unknown

-- whether a class stands in an order
abbrev pub order_contains : Mro → Id → Bool
order_contains order class = list_any (λ other. same_class other class) order.classes

-- whether d stands in the order of c
abbrev pub leads : MroTable → Id → Id → Bool
leads orders c d = order_contains (orders c) d
