-- The order of each class of a table: the class itself, then its ancestors in method resolution order (Python reference
-- 3.13, "Data model", `type.__mro__`; "The Python 2.3 method resolution order").
use Rattle.std.specs.Prelude.{ℕ, zero, suc, nat_lt, if◌then◌else◌, List, [], ◌∷◌, ◌++◌, length, map, Bool}
use Rattle.std.specs.Prelude.{Option, None, Some, option_map, is_some}
use Rattle.std.specs.List.{list_any}
use Rattle.pyc_class_ids.specs.declared.order.UnknownMro.{UnknownMro}
use Rattle.pyc_class_ids.specs.declared.order.UnknownMro.TheVariants as unknown
use Rattle.pyc_mro.specs.declared.table.Base.{Base}
use Rattle.pyc_mro.specs.declared.table.Base.TheVariants as base
use Rattle.pyc_mro.specs.Merge.{merge}
use Rattle.pyc_mro.specs.Tables.{Table, classes_among, bases_of, is_own_ancestor}

-- the order of a class: its classes, and why it is not known, if it is not
pub record Mro : Type 0 where
  pub classes : List ℕ
  pub unknown : Option UnknownMro

-- whether an order is not known
abbrev pub is_unknown : Mro → Bool
is_unknown order = is_some order.unknown

-- an order that is known
abbrev pub known : List ℕ → Mro
known classes = record { classes = classes; unknown = None }

-- the order of a class whose order is not known: the class alone
abbrev pub unknown_of : ℕ → UnknownMro → Mro
unknown_of c why = record { classes = c ∷ []; unknown = Some why }

-- the order of what is no class of the table
abbrev pub no_order : Mro
no_order = record { classes = []; unknown = Some unknown.Base }

-- ---- the order of a class by those of its bases

-- the order of a base by those of the classes, of which there are so many; what is no class has none that is known
abbrev pub base_order : ℕ → (ℕ → Option Mro) → Base → Option Mro
base_order count class_order (base.Class c) = if nat_lt c count then class_order c else Some no_order
base_order count class_order base.Unknown = Some no_order

-- an order before others, if there are both
abbrev pub with_order : Option Mro → Option (List Mro) → Option (List Mro)
with_order (Some order) (Some orders) = Some (order ∷ orders)
with_order _ _ = None

-- the orders of bases, if each has one
abbrev pub base_orders : ℕ → (ℕ → Option Mro) → List Base → Option (List Mro)
base_orders count class_order [] = Some []
base_orders count class_order (b ∷ bases) =
    with_order (base_order count class_order b) (base_orders count class_order bases)

-- the rows that are merged: the orders of the bases, and last the bases as they are written
abbrev pub merged_rows : List Base → List Mro → List (List ℕ)
merged_rows bases orders = map (λ order. order.classes) orders ++ (classes_among bases ∷ [])

-- a class followed by the merge, if there is one
abbrev pub merged_order : ℕ → Option (List ℕ) → Mro
merged_order c None = unknown_of c unknown.Merge
merged_order c (Some classes) = known (c ∷ classes)

-- the order of a class with these bases, which have these orders
abbrev pub linear_order : ℕ → List Base → List Mro → Mro
linear_order c bases orders =
    if list_any is_unknown orders then unknown_of c unknown.Base else merged_order c (merge (merged_rows bases orders))

-- the order of a class with these bases by those of the classes, of which there are so many, if its bases have one
abbrev pub next_order : ℕ → (ℕ → Option Mro) → ℕ → List Base → Option Mro
next_order count class_order c bases = option_map (linear_order c bases) (base_orders count class_order bases)

-- the order of a class of the table by going from it to bases at most so many times; none where this does not suffice
abbrev pub order_within : Table → ℕ → ℕ → Option Mro
order_within table zero c = None
order_within table (suc depth) c = next_order (length table) (order_within table depth) c (bases_of table c)

-- ---- the order of each class

-- the order of a class that stands on no ring, or below one where it has none by its bases
abbrev pub order_below : ℕ → Option Mro → Mro
order_below c (Some order) = order
order_below c None = unknown_of c unknown.Base

-- the order of a class of the table: first of all, one that is its own ancestor has none
abbrev pub class_order : Table → ℕ → Mro
class_order table c =
    if is_own_ancestor table c then unknown_of c unknown.Cycle
    else order_below c (order_within table (suc (length table)) c)

-- the order of a class; what is no class of the table has none
unfoldable pub order_of : Table → ℕ → Mro
order_of table c = if nat_lt c (length table) then class_order table c else no_order
