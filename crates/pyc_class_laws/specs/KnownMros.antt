-- When the order of a class is known, and which merge it holds (Barrett and others, "A monotonic superclass
-- linearization for Dylan"; "The Python 2.3 method resolution order").
use Rattle.std.specs.Prelude.{◌≡◌, ◌↔◌, Bool, false, not, IsTrue, is_some, List, [], ◌∷◌, ◌++◌, map, filter}
use Rattle.std.specs.List.{All, list_any}
use Rattle.pyc_class_ids.specs.Class.{Id, same_class}
use Rattle.pyc_class_ids.specs.Mro.{MroTable}
use Rattle.pyc_class_table.specs.ClassMros.{orders_of}
use Rattle.pyc_class_table.specs.Entries.{Entry}
use Rattle.pyc_class_table.specs.MroLaws.{IsKnown, Sublist, is_distinct}
use Rattle.pyc_class_laws.specs.ClassLaws.{entry_of, written_bases, bases_of, IsAncestor, IsKnownBase}

-- whether a class stands in a row
abbrev pub contains : List Id → Id → Bool
contains row c = list_any (λ other. same_class other c) row

-- ---- merges

-- a row is a merge of rows: it holds just their classes, each once, and keeps each of them in its sequence
pub record IsMerge (rows : List (List Id)) (merged : List Id) : Type 0 where
  pub once : IsTrue (is_distinct merged)
  pub kept : All (λ row. Sublist row merged) rows
  pub from_rows : (c : Id) → IsTrue (contains merged c) → IsTrue (list_any (λ row. contains row c) rows)

-- the rows that are merged for a class: the orders of its written bases, and last these bases
abbrev pub merged_rows : MroTable → List Entry → Id → List (List Id)
merged_rows orders declared c = map (λ base. (orders base).classes) (bases_of declared c) ++ (bases_of declared c ∷ [])

-- ---- when an order is known

-- a class is declared or builtin, it is no ancestor of itself, each of its written bases is a class whose instances
-- have the plain form and whose order is known, and the orders of the bases have a merge with the bases as written
pub record HasMerge (orders : MroTable) (declared : List Entry) (c : Id) : Type 0 where
  pub declares : IsTrue (is_some (entry_of declared c))
  pub no_cycle : IsAncestor declared c c → ⊥
  pub bases : All (IsKnownBase orders) (written_bases declared c)
  pub merged : List Id
  pub merges : IsMerge (merged_rows orders declared c) merged

-- of these orders just those are known of whose classes this holds
abbrev pub AreKnownWhereMerged : (List Entry → MroTable) → Type 0
AreKnownWhereMerged orders =
    (declared : List Entry) (c : Id) → IsKnown (orders declared) c ↔ HasMerge (orders declared) declared c

-- so it is of the orders of declared classes
abbrev pub KnowsWhereBasesMerge : Type 0
KnowsWhereBasesMerge = AreKnownWhereMerged orders_of

-- ---- which merge it is

-- whether a class stands in the tail of a row, behind its head
abbrev pub stands_in_tail : Id → List Id → Bool
stands_in_tail c [] = false
stands_in_tail c (head ∷ tail) = contains tail c

-- whether a class stands in no tail of rows
abbrev pub is_free : List (List Id) → Id → Bool
is_free rows c = not (list_any (stands_in_tail c) rows)

-- whether a row has a head, and this stands in no tail of rows
abbrev pub has_free_head : List (List Id) → List Id → Bool
has_free_head rows [] = false
has_free_head rows (head ∷ tail) = is_free rows head

-- a class is the first head of the second rows that stands in no tail of the first rows
pub data IsFirstFree (rows : List (List Id)) : List (List Id) → Id → Type 0 where
  here : {c : Id} {tail : List Id} {others : List (List Id)} → IsTrue (is_free rows c)
      → IsFirstFree rows ((c ∷ tail) ∷ others) c
  later : {c : Id} {row : List Id} {others : List (List Id)} → has_free_head rows row ≡ false
      → IsFirstFree rows others c → IsFirstFree rows (row ∷ others) c

-- a row without a class
abbrev pub without : Id → List Id → List Id
without c row = filter (λ other. not (same_class other c)) row

-- the merge of C3: the first head that stands in no tail comes next and is removed from every row, until all rows are
-- empty
pub data IsC3Merge : List (List Id) → List Id → Type 0 where
  done : {rows : List (List Id)} → All (λ row. row ≡ []) rows → IsC3Merge rows []
  next : {c : Id} {rows : List (List Id)} {merged : List Id} → IsFirstFree rows rows c
      → IsC3Merge (map (without c) rows) merged → IsC3Merge rows (c ∷ merged)

-- a known order is its class before the merge of C3
abbrev pub HoldsC3Merge : Type 0
HoldsC3Merge =
    (declared : List Entry) (c : Id) → IsKnown (orders_of declared) c
    → (merged : List Id) × ((orders_of declared c).classes ≡ c ∷ merged)
    × IsC3Merge (merged_rows (orders_of declared) declared c) merged
