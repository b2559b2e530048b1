-- What a merge holds of its rows.
use Rattle.std.proofs.Common.{◌≡◌, ℕ, zero, suc, ◌==◌, ◌⊎◌, true, false, not, cond, List, [], ◌∷◌, ◌++◌, map, Option, None, Some, option_map, inl, inr, refl, sym, ap, subst, ◌∙◌}
use Rattle.std.specs.List.{list_any, list_all}
use Rattle.std.specs.Option.{option_or}
use Rattle.std.proofs.lemmas.Bool.{cases_Bool, and_parts, and_from, or_cases, or_parts, or_left, or_right, not-true, eqb-true, eq-eqb, false≢true, false_from_ne_true, not_from_false}
use Rattle.std.proofs.lemmas.Option.{none-some, same_Some, cond_some}
use Rattle.pyc_mro.specs.Merge.{contains, without, stands_in_tail, is_free, free_head, first_free, is_empty, merge_from, merge_within, entry_count, merge}
use Rattle.pyc_mro.specs.MroLaws.{is_distinct, Sublist, ended, kept, left_out}
use Rattle.pyc_mro.proofs.MergeLemmas.{first_free-free, without-absent}

-- ---- rows with some classes left out

pub Sublist-itself : (row : List ℕ) → Sublist row row
Sublist-itself [] = ended
Sublist-itself (c ∷ row) = kept (Sublist-itself row)

pub Sublist-trans : {a b c : List ℕ} → Sublist a b → Sublist b c → Sublist a c
Sublist-trans s ended = s
Sublist-trans s (left_out t) = left_out (Sublist-trans s t)
Sublist-trans (kept s) (kept t) = kept (Sublist-trans s t)
Sublist-trans (left_out s) (kept t) = left_out (Sublist-trans s t)

pub Sublist-contains : {part whole : List ℕ} → Sublist part whole → (d : ℕ) → contains part d ≡ true → contains whole d ≡ true
Sublist-contains ended d in' = in'
Sublist-contains (kept {c = c} {part = part} {whole = whole} s) d in' = elim (or_cases (c == d) (contains part d) in') [
  | inl here ↦ or_left (c == d) (contains whole d) here
  | inr later ↦ or_right (c == d) (contains whole d) (Sublist-contains s d later)
]
Sublist-contains (left_out {c = c} {part = part} {whole = whole} s) d in' = or_right (c == d) (contains whole d) (Sublist-contains s d in')

-- ---- one of some rows

pub data Row : List ℕ → List (List ℕ) → Type 0 where
  here : {row : List ℕ} {rows : List (List ℕ)} → Row row (row ∷ rows)
  later : {row other : List ℕ} {rows : List (List ℕ)} → Row row rows → Row row (other ∷ rows)

-- a row that is made of one of some rows
Row-map : (f : List ℕ → List ℕ) (rows : List (List ℕ)) (row : List ℕ) → Row row rows → Row (f row) (map f rows)
Row-map f [] row at = elim at [ ]
Row-map f (r ∷ rows) row here = here
Row-map f (r ∷ rows) row (later at) = later (Row-map f rows row at)

Row-from_map : (f : List ℕ → List ℕ) (rows : List (List ℕ)) (row : List ℕ) → Row row (map f rows) → (from : List ℕ) × Row from rows × (f from ≡ row)
Row-from_map f [] row at = elim at [ ]
Row-from_map f (r ∷ rows) row here = (r, here, refl)
Row-from_map f (r ∷ rows) row (later at) = let found = Row-from_map f rows row at in (found.0, later found.1, found.2)

-- a row of some, and then some more
pub Row-before : (rows others : List (List ℕ)) (row : List ℕ) → Row row rows → Row row (rows ++ others)
Row-before [] others row at = elim at [ ]
Row-before (r ∷ rows) others row here = here
Row-before (r ∷ rows) others row (later at) = later (Row-before rows others row at)

pub Row-last : (rows : List (List ℕ)) (row : List ℕ) → Row row (rows ++ row ∷ [])
Row-last [] row = here
Row-last (r ∷ rows) row = later (Row-last rows row)

pub Row-cases : (rows : List (List ℕ)) (last row : List ℕ) → Row row (rows ++ last ∷ []) → Row row rows ⊎ (row ≡ last)
Row-cases [] last row here = inr refl
Row-cases [] last row (later at) = elim at [ ]
Row-cases (r ∷ rows) last row here = inl here
Row-cases (r ∷ rows) last row (later at) = elim (Row-cases rows last row at) [ inl among ↦ inl (later among) | inr is ↦ inr is ]

-- ---- one step of a merge

-- a class that stands in a row without another stands in the row, and is not the other
without-contains : (c d : ℕ) (row : List ℕ) → contains (without c row) d ≡ true → (contains row d ≡ true) × (c ≡ d → ⊥)
without-contains c d [] in' = absurd (false≢true in')
without-contains c d (other ∷ row) in' = elim (cases_Bool (other == c)) [
  | inl same ↦
      let rest = without-contains c d row (sym (ap (λ b. contains (cond (not b) (other ∷ without c row) (without c row)) d) same) ∙ in') in
      (or_right (other == d) (contains row d) rest.0, rest.1)
  | inr apart ↦ elim (or_cases (other == d) (contains (without c row) d) (sym (ap (λ b. contains (cond (not b) (other ∷ without c row) (without c row)) d) apart) ∙ in')) [
    | inl is ↦ (or_left (other == d) (contains row d) is, λ e. false≢true (sym apart ∙ eq-eqb other c (eqb-true other d is ∙ sym e)))
    | inr rest ↦ let found = without-contains c d row rest in (or_right (other == d) (contains row d) found.0, found.1)
  ]
]

-- the head that comes next stands in a row
free_head-contains : (all : List (List ℕ)) (row : List ℕ) (c : ℕ) → free_head all row ≡ Some c → contains row c ≡ true
free_head-contains all [] c found = absurd (none-some c found)
free_head-contains all (head ∷ tail) c found = or_left (head == c) (contains tail c) (eq-eqb head c (cond_some (is_free all head) head c found).1)

first_free-row : (all rows : List (List ℕ)) (c : ℕ) → first_free all rows ≡ Some c → (row : List ℕ) × Row row rows × (contains row c ≡ true)
first_free-row all [] c found = absurd (none-some c found)
first_free-row all (row ∷ rows) c found = elim (free_head all row) as (λ o. free_head all row ≡ o → option_or o (first_free all rows) ≡ Some c → (r : List ℕ) × Row r (row ∷ rows) × (contains r c ≡ true)) [
  | None ↦ λ e next. let at = first_free-row all rows c next in (at.0, later at.1, at.2)
  | Some h ↦ λ e this. (row, here, free_head-contains all row c (e ∙ this))
] refl found

-- how a merge goes on, or that it is done
merge-parts : (n : ℕ) (rows : List (List ℕ)) (merged : List ℕ) → merge_within (suc n) rows ≡ Some merged
    → ((list_all is_empty rows ≡ true) × (merged ≡ []))
    ⊎ ((c : ℕ) × (rest : List ℕ) × (first_free rows rows ≡ Some c) × (merge_within n (map (without c) rows) ≡ Some rest) × (merged ≡ c ∷ rest))
merge-parts n rows merged is = by (first_free rows rows) refl is
  where
    by : (o : Option ℕ) → first_free rows rows ≡ o → merge_from (merge_within n) rows o ≡ Some merged
        → ((list_all is_empty rows ≡ true) × (merged ≡ []))
        ⊎ ((c : ℕ) × (rest : List ℕ) × (first_free rows rows ≡ Some c) × (merge_within n (map (without c) rows) ≡ Some rest) × (merged ≡ c ∷ rest))
    by None e is = let parts = cond_some (list_all is_empty rows) [] merged is in inl (parts.0, sym parts.1)
    by (Some c) e is = onward (merge_within n (map (without c) rows)) refl is
      where
        onward : (o : Option (List ℕ)) → merge_within n (map (without c) rows) ≡ o → option_map (λ classes. c ∷ classes) o ≡ Some merged
            → ((list_all is_empty rows ≡ true) × (merged ≡ []))
            ⊎ ((c : ℕ) × (rest : List ℕ) × (first_free rows rows ≡ Some c) × (merge_within n (map (without c) rows) ≡ Some rest) × (merged ≡ c ∷ rest))
        onward None f is = absurd (none-some merged is)
        onward (Some rest) f is = inr (c, rest, e, f, sym (same_Some (c ∷ rest) merged is))

-- ---- each row stands in the merge in its own sequence

-- an empty row
empty-row : (rows : List (List ℕ)) (row : List ℕ) → list_all is_empty rows ≡ true → Row row rows → row ≡ []
empty-row [] row empty at = elim at [ ]
empty-row (r ∷ rows) row empty here = is_empty-nil row (and_parts (is_empty row) (list_all is_empty rows) empty).0
  where
    is_empty-nil : (row : List ℕ) → is_empty row ≡ true → row ≡ []
    is_empty-nil [] e = refl
    is_empty-nil (c ∷ row) e = absurd (false≢true e)
empty-row (r ∷ rows) row empty (later at) = empty-row rows row (and_parts (is_empty r) (list_all is_empty rows) empty).1 at

-- a row whose tail does not hold the class that comes next
keeps-row : (c : ℕ) (row merged : List ℕ) → stands_in_tail c row ≡ false → Sublist (without c row) merged → Sublist row (c ∷ merged)
keeps-row c [] merged free s = left_out s
keeps-row c (head ∷ tail) merged free s = elim (cases_Bool (head == c)) [
  | inl same ↦
      let tail_in : Sublist tail merged = subst (λ l. Sublist l merged) (ap (λ b. cond (not b) (head ∷ without c tail) (without c tail)) same ∙ without-absent c tail free) s in
      subst (λ h. Sublist (h ∷ tail) (c ∷ merged)) (sym (eqb-true head c same)) (kept tail_in)
  | inr apart ↦ left_out (subst (λ l. Sublist l merged) (ap (λ b. cond (not b) (head ∷ without c tail) (without c tail)) apart ∙ ap (λ l. head ∷ l) (without-absent c tail free)) s)
]

free-row : (c : ℕ) (rows : List (List ℕ)) (row : List ℕ) → list_any (stands_in_tail c) rows ≡ false → Row row rows → stands_in_tail c row ≡ false
free-row c [] row free at = elim at [ ]
free-row c (r ∷ rows) row free here = (or_parts (stands_in_tail c row) (list_any (stands_in_tail c) rows) free).0
free-row c (r ∷ rows) row free (later at) = free-row c rows row (or_parts (stands_in_tail c r) (list_any (stands_in_tail c) rows) free).1 at

merge_within-keeps : (n : ℕ) (rows : List (List ℕ)) (merged row : List ℕ) → merge_within n rows ≡ Some merged → Row row rows → Sublist row merged
merge_within-keeps zero rows merged row is at = absurd (none-some merged is)
merge_within-keeps (suc n) rows merged row is at = elim (merge-parts n rows merged is) [
  | inl (empty, nothing) ↦
      subst (λ l. Sublist row l) (sym nothing) (subst (λ l. Sublist l []) (sym (empty-row rows row empty at)) ended)
  | inr (c, rest, next, onward, whole) ↦
      let free = not-true (list_any (stands_in_tail c) rows) (first_free-free rows c rows next) in
      let inner = merge_within-keeps n (map (without c) rows) rest (without c row) onward (Row-map (without c) rows row at) in
      subst (λ l. Sublist row l) (sym whole) (keeps-row c row rest (free-row c rows row free at) inner)
]

-- ---- each class of the merge stands in a row, and once in the merge

merge_within-row : (n : ℕ) (rows : List (List ℕ)) (merged : List ℕ) (d : ℕ) → merge_within n rows ≡ Some merged → contains merged d ≡ true
    → (row : List ℕ) × Row row rows × (contains row d ≡ true)
merge_within-row zero rows merged d is in' = absurd (none-some merged is)
merge_within-row (suc n) rows merged d is in' = elim (merge-parts n rows merged is) [
  | inl (empty, nothing) ↦ absurd (false≢true (sym (ap (λ l. contains l d) nothing) ∙ in'))
  | inr (c, rest, next, onward, whole) ↦ elim (or_cases (c == d) (contains rest d) (sym (ap (λ l. contains l d) whole) ∙ in')) [
    | inl same ↦
        let found = first_free-row rows rows c next in
        (found.0, found.1, ap (contains found.0) (sym (eqb-true c d same)) ∙ found.2)
    | inr further ↦
        let found = merge_within-row n (map (without c) rows) rest d onward further in
        let from = Row-from_map (without c) rows found.0 found.1 in
        (from.0, from.1, (without-contains c d from.0 (ap (λ l. contains l d) from.2 ∙ found.2)).0)
  ]
]

-- a class that was taken does not come again
merge_within-gone : (n : ℕ) (c : ℕ) (rows : List (List ℕ)) (rest : List ℕ) → merge_within n (map (without c) rows) ≡ Some rest → contains rest c ≡ false
merge_within-gone n c rows rest is = false_from_ne_true (contains rest c) (λ in'.
    let found = merge_within-row n (map (without c) rows) rest c is in' in
    let from = Row-from_map (without c) rows found.0 found.1 in
    (without-contains c c from.0 (ap (λ l. contains l c) from.2 ∙ found.2)).1 refl)

merge_within-once : (n : ℕ) (rows : List (List ℕ)) (merged : List ℕ) → merge_within n rows ≡ Some merged → is_distinct merged ≡ true
merge_within-once zero rows merged is = absurd (none-some merged is)
merge_within-once (suc n) rows merged is = elim (merge-parts n rows merged is) [
  | inl (empty, nothing) ↦ ap is_distinct nothing
  | inr (c, rest, next, onward, whole) ↦
      ap is_distinct whole
      ∙ and_from (not (contains rest c)) (is_distinct rest) (not_from_false (contains rest c) (merge_within-gone n c rows rest onward)) (merge_within-once n (map (without c) rows) rest onward)
]

-- ---- rows and classes of the whole merge

module _ (rows : List (List ℕ)) (merged : List ℕ) (is : merge rows ≡ Some merged) where
  pub merge-keeps : (row : List ℕ) → Row row rows → Sublist row merged
  unfolding merge
  merge-keeps row = merge_within-keeps (suc (entry_count rows)) rows merged row is

  pub merge-row : (d : ℕ) → contains merged d ≡ true → (row : List ℕ) × Row row rows × (contains row d ≡ true)
  unfolding merge
  merge-row d = merge_within-row (suc (entry_count rows)) rows merged d is

  pub merge-once : is_distinct merged ≡ true
  unfolding merge
  merge-once = merge_within-once (suc (entry_count rows)) rows merged is
