-- The numbers of classes, one entry more.
use Rattle.std.proofs.Common.{◌≡◌, ℕ, suc, ◌+◌, ◌-◌, ◌<◌, ◌≤◌, Bool, true, false, cond, sym, ap, ◌∙◌, arith}
use Rattle.std.proofs.Common.{List, [], ◌∷◌, map, drop, drop-cons, length, get_or, Option, Some}
use Rattle.std.specs.List.{position_from}
use Rattle.indexmap.specs.IndexMap.{IndexMap}
use Rattle.pyc_class_ids.specs.Class.{Id, same_class}
use Rattle.pyc_class_table.specs.declared.class_entry.ClassEntry.{ClassEntry}
use Rattle.pyc_class_table.specs.Entries.{Entry}
use Rattle.pyc_class_table.specs.EntryView.{entry_in}
use Rattle.pyc_class_table.specs.Numbers.{number_in}
use Rattle.pyc_class_table.specs.NumberView.{numbers_in}

-- the number of a class among entries that are numbered from some number on
abbrev pub number_from : ℕ → List Entry → Id → Option ℕ
number_from n entries class = position_from (λ entry. same_class entry.id class) n entries

module _ {S : Type 0} (all : List ClassEntry) (left : ℕ) (e : ClassEntry) (old new : IndexMap Id ℕ S) where
  -- where the entries from one on have their numbers, and the one before them is put in, those from that one on have
  pub number_from-more : 0 < left → left ≤ length all → e ≡ get_or all (left - 1) e
      → ((class : Id) → numbers_in new class ≡ cond (same_class e.id class) (Some (left - 1)) (numbers_in old class))
      → numbers_in old ≡ number_from left (map entry_in (drop left all))
      → numbers_in new ≡ number_from (left - 1) (map entry_in (drop (left - 1) all))
  number_from-more some within is put before =
      let below : left - 1 < length all = omega arith in
      let next : suc (left - 1) ≡ left = omega arith in
      let onward : left ≡ left - 1 + 1 = omega arith in
      let first : drop (left - 1) all ≡ e ∷ drop left all =
      drop-cons all (left - 1) e below ∙ ap (λ x. x ∷ drop (suc (left - 1)) all) (sym is)
      ∙ ap (λ n. e ∷ drop n all) next in
      let each : (class : Id) → numbers_in new class ≡ number_from (left - 1) (map entry_in (e ∷ drop left all)) class =
      λ class. put class ∙ ap (λ f. cond (same_class e.id class) (Some (left - 1)) (f class)) before
      ∙ ap (λ n. cond (same_class e.id class) (Some (left - 1)) (number_from n (map entry_in (drop left all)) class)) onward in
      (λ i class. each class i) ∙ ap (λ l. number_from (left - 1) (map entry_in l)) (sym first)

-- where those from the first one on have their numbers, all have
pub number_from-all : {numbers : Id → Option ℕ} (all : List ClassEntry) (left : ℕ) → left ≡ 0
    → numbers ≡ number_from left (map entry_in (drop left all)) → numbers ≡ number_in (map entry_in all)
number_from-all all left none are = are ∙ ap (λ n. number_from n (map entry_in (drop n all))) none

within_here : (n k : ℕ) (b : Bool) (later : Option ℕ) (long : ℕ) → (later ≡ Some k → k < (n + 1) + long)
    → cond b (Some n) later ≡ Some k → k < n + suc long
within_here n k true later long next found = let is : n ≡ k = cc in omega arith
within_here n k false later long next found = let below : k < (n + 1) + long = next found in omega arith

-- a number is that of an entry
pub number_from-within : (n k : ℕ) (entries : List Entry) (class : Id) → number_from n entries class ≡ Some k
    → k < n + length entries
number_from-within n k [] class found = cc
number_from-within n k (e ∷ entries) class found =
    within_here n k (same_class e.id class) (number_from (n + 1) entries class) (length entries)
    (number_from-within (n + 1) k entries class) found
