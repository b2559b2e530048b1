-- Where rows of numbers have a merge, the one that is computed does not fail.
use Rattle.std.proofs.Common.{◌≡◌, ℕ, zero, suc, ◌<◌, ◌==◌, true, false, not, cond, List, [], ◌∷◌, map, Option, None, Some, option_map, refl, sym, ap, ◌∙◌, arith}
use Rattle.std.specs.List.{list_any, list_all}
use Rattle.std.specs.Option.{option_or}
use Rattle.std.proofs.lemmas.Bool.{and_from, and_parts, or_from, or_right, not-true, not_from_false, false≢true, false_from_ne_true}
use Rattle.std.proofs.lemmas.Option.{none-some}
use Rattle.pyc_mro.specs.Merge.{contains, without, stands_in_tail, is_free, free_head, first_free, is_empty, merge_from, merge_within, entry_count, merge}
use Rattle.pyc_mro.specs.MroLaws.{is_distinct, Sublist, ended, kept, left_out}
use Rattle.pyc_mro.proofs.MergeLemmas.{first_free-fewer}
use Rattle.pyc_mro.proofs.RowLemmas.{Sublist-contains, Sublist-trans}

-- each of some rows stands in a row in its own sequence
pub data AreKept (whole : List ℕ) : List (List ℕ) → Type 0 where
  no_row : AreKept whole []
  one_row : {row : List ℕ} {rows : List (List ℕ)} → Sublist row whole → AreKept whole rows → AreKept whole (row ∷ rows)

-- ---- without a class

without-kept : (c : ℕ) (row : List ℕ) → Sublist (without c row) row
without-kept c [] = ended
without-kept c (other ∷ row) = elim (other == c) as (λ b. Sublist (cond (not b) (other ∷ without c row) (without c row)) (other ∷ row)) [
  | true ↦ left_out (without-kept c row)
  | false ↦ kept (without-kept c row)
]

rows-without : (c : ℕ) {whole : List ℕ} {rows : List (List ℕ)} → AreKept whole rows → AreKept whole (map (without c) rows)
rows-without c no_row = no_row
rows-without c (one_row {row} {rows} s rest) = one_row (Sublist-trans (without-kept c row) s) (rows-without c rest)

-- ---- the first class of a row that keeps them all

module _ (w : ℕ) (ws : List ℕ) (absent : contains ws w ≡ false) where
  -- it stands in no tail
  in-tail : (h : ℕ) (t : List ℕ) → Sublist (h ∷ t) (w ∷ ws) → contains t w ≡ true → contains ws w ≡ true
  in-tail h t (kept s) among = Sublist-contains s w among
  in-tail h t (left_out s) among = Sublist-contains s w (or_right (h == w) (contains t w) among)

  no-tail : (row : List ℕ) → Sublist row (w ∷ ws) → stands_in_tail w row ≡ false
  no-tail [] s = refl
  no-tail (h ∷ t) s = false_from_ne_true (contains t w) (λ among. false≢true (sym absent ∙ in-tail h t s among))

  no-tails : {rows : List (List ℕ)} → AreKept (w ∷ ws) rows → list_any (stands_in_tail w) rows ≡ false
  no-tails no_row = refl
  no-tails (one_row {row} {rows} s rest) =
      or_from (stands_in_tail w row) (list_any (stands_in_tail w) rows) (no-tail row s) (no-tails rest)

-- ---- no head comes next

neither : (a b : Option ℕ) → option_or a b ≡ None → (a ≡ None) × (b ≡ None)
neither None b none = (refl, none)
neither (Some x) b none = absurd (none-some x (sym none))

module _ (all : List (List ℕ)) (w : ℕ) (ws : List ℕ) (free : is_free all w ≡ true) where
  -- a row that has no free head stands in the rest
  row-later : {row : List ℕ} → Sublist row (w ∷ ws) → free_head all row ≡ None → Sublist row ws
  row-later (left_out s) none = s
  row-later (kept s) none = absurd (none-some w (sym none ∙ ap (λ b. cond b (Some w) None) free))

  rows-later : {rows : List (List ℕ)} → AreKept (w ∷ ws) rows → first_free all rows ≡ None → AreKept ws rows
  rows-later no_row none = no_row
  rows-later (one_row {row} {rows} s rest) none =
      let parts = neither (free_head all row) (first_free all rows) none in
      one_row (row-later s parts.0) (rows-later rest parts.1)

empty-row : (row : List ℕ) → Sublist row [] → is_empty row ≡ true
empty-row [] s = refl
empty-row (c ∷ row) s = elim s [ ]

empty-rows : {rows : List (List ℕ)} → AreKept [] rows → list_all is_empty rows ≡ true
empty-rows no_row = refl
empty-rows (one_row {row} {rows} s rest) =
    and_from (is_empty row) (list_all is_empty rows) (empty-row row s) (empty-rows rest)

-- rows that stand in one without repeats are empty where no head comes next
all-empty : (rows : List (List ℕ)) (whole : List ℕ) → is_distinct whole ≡ true → AreKept whole rows → first_free rows rows ≡ None
    → list_all is_empty rows ≡ true
all-empty rows [] once held none = empty-rows held
all-empty rows (w ∷ ws) once held none =
    let parts = and_parts (not (contains ws w)) (is_distinct ws) once in
    let absent = not-true (contains ws w) parts.0 in
    let free = not_from_false (list_any (stands_in_tail w) rows) (no-tails w ws absent held) in
    all-empty rows ws parts.1 (rows-later rows w ws free held none) none

-- ---- the merge

module _ (whole : List ℕ) (once : is_distinct whole ≡ true) where
  within-exists : (n : ℕ) (rows : List (List ℕ)) → AreKept whole rows → entry_count rows < n
      → (merged : List ℕ) × (merge_within n rows ≡ Some merged)
  within-exists zero rows held le = absurd (omega arith)
  within-exists (suc n) rows held le = by (first_free rows rows) refl (λ left left_held fewer. within-exists n left left_held fewer)
    where
      by : (o : Option ℕ) → first_free rows rows ≡ o
          → ((left : List (List ℕ)) → AreKept whole left → entry_count left < n → (merged : List ℕ) × (merge_within n left ≡ Some merged))
          → (merged : List ℕ) × (merge_from (merge_within n) rows o ≡ Some merged)
      by None e further = ([], ap (λ b. cond b (Some []) None) (all-empty rows whole once held e))
      by (Some c) e further =
          let fewer = first_free-fewer rows c rows e in
          let rest = further (map (without c) rows) (rows-without c held) (omega arith) in
          (c ∷ rest.0, ap (option_map (λ classes. c ∷ classes)) rest.1)

  -- rows that stand in one without repeats have a merge
  pub merge-exists : (rows : List (List ℕ)) → AreKept whole rows → (merged : List ℕ) × (merge rows ≡ Some merged)
  unfolding merge
  merge-exists rows held = within-exists (suc (entry_count rows)) rows held (omega arith)
