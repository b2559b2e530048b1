-- What the known orders hold, and in which sequence ("The Python 2.3 method resolution order"; Python reference 3.13,
-- "Data model", `type.__mro__`).
use Rattle.std.specs.Prelude.{◌≡◌, ◌⊎◌, ◌↔◌, ℕ, ◌<◌, Bool, true, not, ◌&&◌, IsTrue, List, [], ◌∷◌, length, Some, None}
use Rattle.std.specs.List.{slice_get}
use Rattle.pyc_class_ids.specs.declared.order.UnknownMro.TheVariants as unknown
use Rattle.pyc_mro.specs.Merge.{contains}
use Rattle.pyc_mro.specs.MroTable.{Mro, order_within, order_of}
use Rattle.pyc_mro.specs.Tables.{Table, parents, reaches}

-- the order of a class is known
abbrev pub IsKnown : Table → ℕ → Type 0
IsKnown table c = (order_of table c).unknown ≡ None

-- the classes of the order of a class
abbrev pub classes_of : Table → ℕ → List ℕ
classes_of table c = (order_of table c).classes

-- going to bases, some number of times, leads from a class to another
abbrev pub IsAncestor : Table → ℕ → ℕ → Type 0
IsAncestor table c d = (n : ℕ) × IsTrue (reaches table n c d)

-- whether no class stands in a row twice
abbrev pub is_distinct : List ℕ → Bool
is_distinct [] = true
is_distinct (c ∷ row) = not (contains row c) && is_distinct row

-- the first row is the second with some classes left out: they stand there in the same sequence
pub data Sublist : List ℕ → List ℕ → Type 0 where
  ended : Sublist [] []
  kept : {c : ℕ} {part whole : List ℕ} → Sublist part whole → Sublist (c ∷ part) (c ∷ whole)
  left_out : {c : ℕ} {part whole : List ℕ} → Sublist part whole → Sublist part (c ∷ whole)

-- a class whose order is known is one of the table
abbrev pub KnownAreOfTheTable : Type 0
KnownAreOfTheTable = (table : Table) (c : ℕ) → IsKnown table c → c < length table

-- the order of a class of the table begins with it, known or not
abbrev pub BeginsWithItself : Type 0
BeginsWithItself = (table : Table) (c : ℕ) → c < length table → slice_get (classes_of table c) 0 ≡ Some c

-- a known order holds exactly its class and the ancestors of it
abbrev pub HoldsAncestors : Type 0
HoldsAncestors =
    (table : Table) (c d : ℕ) → IsKnown table c
    → (IsTrue (contains (classes_of table c) d) ↔ ((c ≡ d) ⊎ IsAncestor table c d))

-- a known order holds each of its classes once
abbrev pub HoldsEachOnce : Type 0
HoldsEachOnce = (table : Table) (c : ℕ) → IsKnown table c → IsTrue (is_distinct (classes_of table c))

-- in a known order each class stands before its own ancestors, in the sequence of its own order, which is known too
abbrev pub KeepsMros : Type 0
KeepsMros =
    (table : Table) (c d : ℕ) → IsKnown table c → IsTrue (contains (classes_of table c) d)
    → IsKnown table d × Sublist (classes_of table d) (classes_of table c)

-- in a known order the bases stand in the sequence in which they are written
abbrev pub KeepsWrittenBases : Type 0
KeepsWrittenBases =
    (table : Table) (c : ℕ) → IsKnown table c → Sublist (parents table c) (classes_of table c)

-- a known order holds its class
abbrev pub HoldsItself : Type 0
HoldsItself = (table : Table) (c : ℕ) → IsKnown table c → IsTrue (contains (classes_of table c) c)

-- a known order holds the order of each class in it
abbrev pub HoldsMros : Type 0
HoldsMros =
    (table : Table) (c d e : ℕ) → IsKnown table c → IsTrue (contains (classes_of table c) d)
    → IsTrue (contains (classes_of table d) e) → IsTrue (contains (classes_of table c) e)

-- ---- why an order is not known

-- the order of a class is reported as a cycle exactly where the class of the table is its own ancestor, by however many
-- bases that are gone to
abbrev pub CyclesAreReported : Type 0
CyclesAreReported =
    (table : Table) (c : ℕ)
    → (((order_of table c).unknown ≡ Some unknown.Cycle) ↔ ((c < length table) × IsAncestor table c c))

-- going to bases more often gives a class no other order
abbrev pub HasEnoughDepth : Type 0
HasEnoughDepth =
    (table : Table) (depth c : ℕ) (order : Mro) → c < length table → order_within table depth c ≡ Some order
    → order_of table c ≡ order
