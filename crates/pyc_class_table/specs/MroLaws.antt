-- What the known orders hold, and in which sequence ("The Python 2.3 method resolution order"; Python reference 3.13,
-- "Data model", `type.__mro__`).
use Rattle.std.specs.Prelude.{◌≡◌, Bool, true, not, ◌&&◌, ◌||◌, IsTrue, List, [], ◌∷◌, map, Some, None}
use Rattle.std.specs.List.{list_any, slice_get}
use Rattle.pyc_class_ids.specs.declared.builtin_class.BuiltinClass.{BuiltinClass}
use Rattle.pyc_class_ids.specs.Class.{Id, builtin, same_class}
use Rattle.pyc_class_ids.specs.Mro.{MroTable, is_unknown, leads}
use Rattle.pyc_builtins.specs.MroTable.{builtin_order}
use Rattle.pyc_class_table.specs.Entries.{Entry, all_entries}
use Rattle.pyc_class_table.specs.Numbers.{number_in}
use Rattle.pyc_class_table.specs.ClassMros.{order_at, orders_of}

-- the order of a class is known
abbrev pub IsKnown : MroTable → Id → Type 0
IsKnown orders c = (orders c).unknown ≡ None

-- whether no class stands in a row twice
abbrev pub is_distinct : List Id → Bool
is_distinct [] = true
is_distinct (c ∷ row) = not (list_any (λ other. same_class other c) row) && is_distinct row

-- the first row is the second with some classes left out: they stand there in the same sequence
pub data Sublist : List Id → List Id → Type 0 where
  ended : Sublist [] []
  kept : {c : Id} {part whole : List Id} → Sublist part whole → Sublist (c ∷ part) (c ∷ whole)
  left_out : {c : Id} {part whole : List Id} → Sublist part whole → Sublist part (c ∷ whole)

-- a known order begins with its class
abbrev pub BeginsWithItself : Type 0
BeginsWithItself =
    (declared : List Entry) (c : Id) → IsKnown (orders_of declared) c
    → slice_get (orders_of declared c).classes 0 ≡ Some c

-- a known order holds each of its classes once
abbrev pub HoldsEachOnce : Type 0
HoldsEachOnce =
    (declared : List Entry) (c : Id) → IsKnown (orders_of declared) c
    → IsTrue (is_distinct (orders_of declared c).classes)

-- in a known order each class stands before its own ancestors, in the sequence of its own order, which is known too
abbrev pub KeepsMros : Type 0
KeepsMros =
    (declared : List Entry) (c d : Id) → IsKnown (orders_of declared) c → IsTrue (leads (orders_of declared) c d)
    → IsKnown (orders_of declared) d × Sublist (orders_of declared d).classes (orders_of declared c).classes

-- the builtin classes have their orders by the same rule as the declared ones
abbrev pub BuiltinsFollowTheRule : Type 0
BuiltinsFollowTheRule =
    (declared : List Entry) (c : Id)
    → orders_of declared c ≡ order_at (all_entries declared) (number_in (all_entries declared) c)

-- ---- what assignability asks of orders

-- each class stands in its own order, where that is known
abbrev pub HoldsItself : MroTable → Type 0
HoldsItself orders = (c : Id) → IsTrue (is_unknown (orders c) || leads orders c c)

-- the order of a class, where it is known, holds the order of each class in it
abbrev pub HoldsMros : MroTable → Type 0
HoldsMros orders =
    (c d e : Id) → IsTrue (not (is_unknown (orders c))) → IsTrue (leads orders c d) → IsTrue (leads orders d e)
    → IsTrue (leads orders c e)

-- the order of each builtin class is its builtin order
abbrev pub HasBuiltins : MroTable → Type 0
HasBuiltins orders = (class : BuiltinClass) → (orders (builtin class)).classes ≡ map builtin (builtin_order class)

-- the orders of declared classes meet what the laws of assignability ask of orders
abbrev pub MrosAreOrderly : Type 0
MrosAreOrderly =
    (declared : List Entry)
    → HoldsItself (orders_of declared) × (HoldsMros (orders_of declared) × HasBuiltins (orders_of declared))
