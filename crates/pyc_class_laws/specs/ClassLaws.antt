-- What the known orders hold of the written bases, and in which sequence ("The Python 2.3 method resolution order";
-- Python reference 3.13, "Data model", `type.__mro__`).
use Rattle.std.specs.Prelude.{◌≡◌, ◌⊎◌, ◌↔◌, ◌≤◌, ◌||◌, Bool, IsTrue, List, [], ◌∷◌, length, Option}
use Rattle.std.specs.List.{All, find, list_any}
use Rattle.std.specs.Option.{option_map_or}
use Rattle.pyc_class_ids.specs.declared.class_id.InstanceForm.TheVariants as form
use Rattle.pyc_class_ids.specs.Class.{Id, same_class, form_of}
use Rattle.pyc_class_ids.specs.Mro.{MroTable, leads}
use Rattle.pyc_class_table.specs.declared.class_entry.WrittenBase.{WrittenBase}
use Rattle.pyc_class_table.specs.declared.class_entry.WrittenBase.TheVariants as written
use Rattle.pyc_class_table.specs.ClassMros.{orders_of}
use Rattle.pyc_class_table.specs.Entries.{Entry, all_entries}
use Rattle.pyc_class_table.specs.MroLaws.{IsKnown, Sublist}

-- ---- written bases

-- the entry of a class: the first that is its own, if there is one
abbrev pub entry_of : List Entry → Id → Option Entry
entry_of declared c = find (λ entry. same_class entry.id c) (all_entries declared)

-- the bases of a class as they are written; of a declared class with none written, `object`; what has no entry has none
abbrev pub written_bases : List Entry → Id → List WrittenBase
written_bases declared c = option_map_or (λ entry. entry.bases) (entry_of declared c) []

-- the classes among written bases
abbrev pub classes_among : List WrittenBase → List Id
classes_among [] = []
classes_among (written.Class c ∷ bases) = c ∷ classes_among bases
classes_among (written.Unknown ∷ bases) = classes_among bases

-- the classes that are written bases of a class
abbrev pub bases_of : List Entry → Id → List Id
bases_of declared c = classes_among (written_bases declared c)

-- whether a class has another as a written base
abbrev pub has_base : List Entry → Id → Id → Bool
has_base declared c d = list_any (λ base. same_class base d) (bases_of declared c)

-- ---- ancestors

-- the second class is an ancestor of the first: going from the first to a written base of it, and from there to one of
-- that class's own, comes to the second in one or more steps
pub data IsAncestor (declared : List Entry) : Id → Id → Type 0 where
  at_once : {c d : Id} → IsTrue (has_base declared c d) → IsAncestor declared c d
  by_base : {c base d : Id} → IsTrue (has_base declared c base) → IsAncestor declared base d → IsAncestor declared c d

-- ---- the laws

-- a base that is a class, whose instances have the plain form and whose order is known
abbrev pub IsKnownBase : MroTable → WrittenBase → Type 0
IsKnownBase orders (written.Class class) = (form_of class ≡ form.Plain) × IsKnown orders class
IsKnownBase orders written.Unknown = ⊥

-- where the order of a class is known, each of its written bases is such a class
abbrev pub KnowsWrittenBases : Type 0
KnowsWrittenBases =
    (declared : List Entry) (c : Id) → IsKnown (orders_of declared) c
    → All (IsKnownBase (orders_of declared)) (written_bases declared c)

-- in a known order the written bases of the class stand in the sequence in which they are written
abbrev pub KeepsWrittenBases : Type 0
KeepsWrittenBases =
    (declared : List Entry) (c : Id) → IsKnown (orders_of declared) c
    → Sublist (bases_of declared c) (orders_of declared c).classes

-- a known order holds exactly its class and the ancestors of it
abbrev pub HoldsAncestors : Type 0
HoldsAncestors =
    (declared : List Entry) (c d : Id) → IsKnown (orders_of declared) c
    → (IsTrue (leads (orders_of declared) c d) ↔ (IsTrue (same_class c d) ⊎ IsAncestor declared c d))

-- each class in the order of a class is written with at most one class as a base
abbrev pub HasSingleBases : List Entry → Id → Type 0
HasSingleBases declared c = (d : Id) → IsTrue (leads (orders_of declared) c d) → length (bases_of declared d) ≤ 1

-- in a known order in which each class has at most one base, one of each two classes stands in the order of the other
abbrev pub SingleBasesMakeALine : Type 0
SingleBasesMakeALine =
    (declared : List Entry) (c d e : Id) → IsKnown (orders_of declared) c → HasSingleBases declared c
    → IsTrue (leads (orders_of declared) c d) → IsTrue (leads (orders_of declared) c e)
    → IsTrue (leads (orders_of declared) d e || leads (orders_of declared) e d)
