-- The order of a class whose bases have known orders, by number.
use Rattle.std.proofs.Common.{◌≡◌, ℕ, zero, suc, ◌+◌, ◌<◌, ◌==◌, Bool, true, false, cond, nat_lt, is_some, List, [], ◌∷◌, ◌++◌, length, map, find, option_map, Option, None, Some, inl, inr, refl, sym, ap, ap₂, subst, ◌∙◌, arith}
use Rattle.std.specs.List.{All, list_any}
use Rattle.std.proofs.lemmas.Bool.{cond-true, cond-false, eq-eqb, false≢true, lt-ltb, or_from, or_left, or_right}
use Rattle.std.proofs.lemmas.List.{length-map, map_push}
use Rattle.std.proofs.lemmas.List.Elements.{All-head, All-tail}
use Rattle.std.proofs.lemmas.Option.{none-some}
use Rattle.pyc_class_ids.specs.declared.class_id.InstanceForm.TheVariants as form
use Rattle.pyc_class_ids.specs.declared.order.UnknownMro.TheVariants as unknown
use Rattle.pyc_class_ids.specs.Class.{Id, same_class, form_of}
use Rattle.pyc_class_ids.specs.Mro.{MroTable}
use Rattle.pyc_mro.specs.declared.table.Base.TheVariants as base
use Rattle.pyc_mro.specs.Merge.{contains, merge}
use Rattle.pyc_mro.specs.MroLaws.{classes_of}
use Rattle.pyc_mro.specs.MroLaws as numbered
use Rattle.pyc_mro.specs.MroTable.{Mro, is_unknown, known as known_order, unknown_of, no_order, with_order, base_orders, merged_rows, merged_order, linear_order, next_order, order_within, order_below, order_of}
use Rattle.pyc_mro.specs.Tables.{Table, bases_of as numbered_bases, is_own_ancestor, reaches}
use Rattle.pyc_mro.proofs.DepthLemmas.{has_enough_depth}
use Rattle.pyc_mro.proofs.LawLemmas.{holds_ancestors, known_are_of_the_table}
use Rattle.pyc_mro.proofs.MroLemmas.{order_of-within}
use Rattle.pyc_mro.proofs.TableLemmas.{reaches-parts}
use Rattle.pyc_class_table.specs.declared.class_entry.WrittenBase.{WrittenBase}
use Rattle.pyc_class_table.specs.declared.class_entry.WrittenBase.TheVariants as written
use Rattle.pyc_class_table.specs.ClassMros.{order_at}
use Rattle.pyc_class_table.specs.Entries.{Entry, all_entries}
use Rattle.pyc_class_table.specs.MroLaws.{IsKnown}
use Rattle.pyc_class_table.specs.Numbers.{number_in, id_at, base_by, numbered_base, table_of}
use Rattle.pyc_class_table.proofs.NumberLemmas.{number_from, number_from-within}
use Rattle.pyc_class_laws.specs.ClassLaws.{classes_among, written_bases, IsKnownBase}
use Rattle.pyc_class_laws.proofs.BaseLemmas.{numbers_among-classes}
use Rattle.pyc_class_laws.proofs.LawLemmas.{known-found, number-is, own-number, bases-numbered, bases-of-known, base-known}

-- a class that has an entry has a number
number-of-entry : (n : ℕ) (entries : List Entry) (c : Id) → is_some (find (λ entry. same_class entry.id c) entries) ≡ true
    → (k : ℕ) × (number_from n entries c ≡ Some k)
number-of-entry n [] c found = absurd (false≢true found)
number-of-entry n (e ∷ entries) c found =
    elim (same_class e.id c) as (λ b. is_some (cond b (Some e) (find (λ entry. same_class entry.id c) entries)) ≡ true
    → (k : ℕ) × (cond b (Some n) (number_from (n + 1) entries c) ≡ Some k)) [
      | true ↦ λ first. (n, refl)
      | false ↦ λ further. number-of-entry (n + 1) entries c further
    ] found

pub number_in-entry : (entries : List Entry) (c : Id) → is_some (find (λ entry. same_class entry.id c) entries) ≡ true
    → (k : ℕ) × (number_in entries c ≡ Some k)
number_in-entry entries c found = number-of-entry 0 entries c found

-- and one that has a number has an entry
entry-of-number : (n k : ℕ) (entries : List Entry) (c : Id) → number_from n entries c ≡ Some k
    → is_some (find (λ entry. same_class entry.id c) entries) ≡ true
entry-of-number n k [] c found = absurd (none-some k found)
entry-of-number n k (e ∷ entries) c found =
    elim (same_class e.id c) as (λ b. cond b (Some n) (number_from (n + 1) entries c) ≡ Some k
    → is_some (cond b (Some e) (find (λ entry. same_class entry.id c) entries)) ≡ true) [
      | true ↦ λ first. refl
      | false ↦ λ further. entry-of-number (n + 1) k entries c further
    ] found

pub entry_in-number : (entries : List Entry) (c : Id) (k : ℕ) → number_in entries c ≡ Some k
    → is_some (find (λ entry. same_class entry.id c) entries) ≡ true
entry_in-number entries c k found = entry-of-number 0 k entries c found

module _ (declared : List Entry) where
  abbrev all : List Entry
  all = all_entries declared

  abbrev order : MroTable
  order c = order_at all (number_in all c)

  abbrev table : Table
  table = table_of all

  abbrev IsOwn : ℕ → Type 0
  IsOwn j = number_in all (id_at all j) ≡ Some j

  -- ---- bases whose orders are known

  -- bases that are classes of the plain form whose orders are known, and their numbers
  pub data HaveKnown : List WrittenBase → List ℕ → Type 0 where
    no_base : HaveKnown [] []
    one_base : {class : Id} {n : ℕ} {bases : List WrittenBase} {row : List ℕ} → form_of class ≡ form.Plain → number_in all class ≡ Some n
        → numbered.IsKnown table n → HaveKnown bases row → HaveKnown (written.Class class ∷ bases) (n ∷ row)

  pub have-known : (bases : List WrittenBase) → All (IsKnownBase order) bases → (row : List ℕ) × HaveKnown bases row
  have-known [] are = ([], no_base)
  have-known (written.Class class ∷ bases) are =
      let first : (form_of class ≡ form.Plain) × IsKnown order class = All-head (IsKnownBase order) (written.Class class) bases are in
      let f = known-found declared class first.1 in
      let rest = have-known bases (All-tail (IsKnownBase order) (written.Class class) bases are) in
      (f.number ∷ rest.0, one_base first.0 f.found f.known rest.1)
  have-known (written.Unknown ∷ bases) are = absurd (All-head (IsKnownBase order) written.Unknown bases are)

  -- by number they are classes
  bases-are : {bases : List WrittenBase} {row : List ℕ} → HaveKnown bases row → map (numbered_base (number_in all)) bases ≡ map base.Class row
  bases-are no_base = refl
  bases-are (one_base {class} {n} {bases} {row} plain found is_known rest) =
      ap₂ (λ b l. b ∷ l) (ap₂ base_by plain found) (bases-are rest)

  -- a known order is made by going to bases as often as there are classes, and once more
  order-within : (n : ℕ) → numbered.IsKnown table n → order_within table (suc (length table)) n ≡ Some (order_of table n)
  order-within n is_known =
      by (is_own_ancestor table n) (order_within table (suc (length table)) n) refl
      (order_of-within table n (known_are_of_the_table table n is_known))
    where
      by : (b : Bool) (o : Option Mro) → order_within table (suc (length table)) n ≡ o
          → order_of table n ≡ cond b (unknown_of n unknown.Cycle) (order_below n o) → order_within table (suc (length table)) n ≡ Some (order_of table n)
      by true o e is = absurd (none-some unknown.Cycle (sym is_known ∙ ap (λ o. o.unknown) is))
      by false None e is = absurd (none-some unknown.Base (sym is_known ∙ ap (λ o. o.unknown) is))
      by false (Some made) e is = e ∙ ap Some (sym is)

  orders-made : {bases : List WrittenBase} {row : List ℕ} → HaveKnown bases row
      → base_orders (length table) (order_within table (suc (length table))) (map base.Class row) ≡ Some (map (order_of table) row)
  orders-made no_base = refl
  orders-made (one_base {class} {n} {bases} {row} plain found is_known rest) =
      ap₂ with_order
      (cond-true (nat_lt n (length table)) (order_within table (suc (length table)) n) (Some no_order)
      (lt-ltb n (length table) (known_are_of_the_table table n is_known)) ∙ order-within n is_known)
      (orders-made rest)

  none-unknown : {bases : List WrittenBase} {row : List ℕ} → HaveKnown bases row → list_any is_unknown (map (order_of table) row) ≡ false
  none-unknown no_base = refl
  none-unknown (one_base {class} {n} {bases} {row} plain found is_known rest) =
      or_from (is_unknown (order_of table n)) (list_any is_unknown (map (order_of table) row)) (ap is_some is_known) (none-unknown rest)

  -- ---- the rows that are merged

  -- the orders of bases with these numbers, and last the bases
  abbrev pub rows_of : List ℕ → List (List ℕ)
  rows_of row = map (classes_of table) row ++ row ∷ []

  classes-twice : (row : List ℕ) → map (λ (o : Mro). o.classes) (map (order_of table) row) ≡ map (classes_of table) row
  classes-twice [] = refl
  classes-twice (n ∷ row) = ap (λ l. classes_of table n ∷ l) (classes-twice row)

  merged-rows : (row : List ℕ) → merged_rows (map base.Class row) (map (order_of table) row) ≡ rows_of row
  merged-rows row =
      let joined : List (List ℕ) → List ℕ → List (List ℕ) = λ rows last. rows ++ last ∷ [] in
      ap₂ joined (classes-twice row) (numbers_among-classes row)

  -- the order of a class with known bases whose rows have a merge
  pub order-made : (k : ℕ) (c : Id) (row merged : List ℕ) (bases : List WrittenBase) → number_in all c ≡ Some k → bases ≡ written_bases declared c
      → HaveKnown bases row → merge (rows_of row) ≡ Some merged → order_of table k ≡ known_order (k ∷ merged)
  order-made k c row merged bases found are have merges =
      has_enough_depth table (suc (suc (length table))) k (known_order (k ∷ merged)) below
      (ap (next_order (length table) (order_within table (suc (length table))) k) numbers
      ∙ ap (option_map (linear_order k (map base.Class row))) (orders-made have) ∙ ap Some linear)
    where
      below : k < length table
      below =
          let within : k < 0 + length all = number_from-within 0 k all c found in
          let same : length table ≡ length all = length-map all (λ (e : Entry). map (numbered_base (number_in all)) e.bases) in
          omega (arith, within, same)

      numbers : numbered_bases table k ≡ map base.Class row
      numbers = bases-numbered declared k c found ∙ ap (map (numbered_base (number_in all))) (sym are) ∙ bases-are have

      linear : linear_order k (map base.Class row) (map (order_of table) row) ≡ known_order (k ∷ merged)
      linear =
          cond-false (list_any is_unknown (map (order_of table) row)) (unknown_of k unknown.Base)
          (merged_order k (merge (merged_rows (map base.Class row) (map (order_of table) row)))) (none-unknown have)
          ∙ ap (merged_order k) (ap merge (merged-rows row) ∙ merges)

  -- ---- numbers that are those of their classes

  pub data AreOwn : List ℕ → Type 0 where
    no_class : AreOwn []
    one_class : {n : ℕ} {row : List ℕ} → IsOwn n → AreOwn row → AreOwn (n ∷ row)

  pub data RowsOwn : List (List ℕ) → Type 0 where
    no_rows : RowsOwn []
    more_rows : {row : List ℕ} {rows : List (List ℕ)} → AreOwn row → RowsOwn rows → RowsOwn (row ∷ rows)

  own-each : (row : List ℕ) → ((n : ℕ) → contains row n ≡ true → IsOwn n) → AreOwn row
  own-each [] own = no_class
  own-each (n ∷ row) own =
      one_class (own n (or_left (n == n) (contains row n) (eq-eqb n n refl)))
      (own-each row (λ m among. own m (or_right (n == m) (contains row m) among)))

  reached-own : (m n j : ℕ) → IsOwn n → numbered.IsKnown table n → reaches table m n j ≡ true → IsOwn j
  reached-own zero n j own is_known there = absurd (false≢true there)
  reached-own (suc m) n j own is_known there =
      let parts = reaches-parts table m n j there in
      let b_own : IsOwn parts.0 = (bases-of-known declared n (id_at all n) own is_known).own parts.0 parts.1 in
      elim (parts.2) [
        | inl here ↦ subst IsOwn here b_own
        | inr later ↦ reached-own m parts.0 j b_own (base-known declared n parts.0 is_known parts.1) later
      ]

  own-classes : (n : ℕ) → IsOwn n → numbered.IsKnown table n → AreOwn (classes_of table n)
  own-classes n own is_known = own-each (classes_of table n) (λ j among. elim ((holds_ancestors table n j is_known).0 among) [
    | inl same ↦ subst IsOwn same own
    | inr (m, there) ↦ reached-own m n j own is_known there
  ])

  own-row : {bases : List WrittenBase} {row : List ℕ} → HaveKnown bases row → AreOwn row
  own-row no_base = no_class
  own-row (one_base {class} {n} {bases} {row} plain found is_known rest) = one_class (own-number declared n class found) (own-row rest)

  own-before : {bases : List WrittenBase} {row : List ℕ} → HaveKnown bases row → (last : List ℕ) → AreOwn last
      → RowsOwn (map (classes_of table) row ++ last ∷ [])
  own-before no_base last own = more_rows own no_rows
  own-before (one_base {class} {n} {bases} {row} plain found is_known rest) last own =
      more_rows (own-classes n (own-number declared n class found) is_known) (own-before rest last own)

  pub rows-own : {bases : List WrittenBase} {row : List ℕ} → HaveKnown bases row → RowsOwn (rows_of row)
  rows-own {row = row} have = own-before have row (own-row have)

  -- ---- the rows as classes

  abbrev pub ids : List ℕ → List Id
  ids = map (id_at all)

  pub classes-ids : {bases : List WrittenBase} {row : List ℕ} → HaveKnown bases row → classes_among bases ≡ ids row
  classes-ids no_base = refl
  classes-ids (one_base {class} {n} {bases} {row} plain found is_known rest) =
      ap₂ (λ c l. c ∷ l) (sym (number-is declared n class found)) (classes-ids rest)

  orders-ids : {bases : List WrittenBase} {row : List ℕ} → HaveKnown bases row
      → map (λ b. (order b).classes) (classes_among bases) ≡ map ids (map (classes_of table) row)
  orders-ids no_base = refl
  orders-ids (one_base {class} {n} {bases} {row} plain found is_known rest) =
      let cons : List Id → List (List Id) → List (List Id) = λ l ls. l ∷ ls in
      ap₂ cons (ap (λ o. (order_at all o).classes) found) (orders-ids rest)

  pub rows-ids : {bases : List WrittenBase} {row : List ℕ} → HaveKnown bases row
      → map (λ b. (order b).classes) (classes_among bases) ++ classes_among bases ∷ [] ≡ map ids (rows_of row)
  rows-ids {row = row} have =
      let joined : List (List Id) → List Id → List (List Id) = λ rows last. rows ++ last ∷ [] in
      ap₂ joined (orders-ids have) (classes-ids have) ∙ sym (map_push ids (map (classes_of table) row) row)
