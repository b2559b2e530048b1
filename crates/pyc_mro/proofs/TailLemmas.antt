-- Counts of what stands in the tails of rows, step by step; and that a class is free where its count is 0.
use Rattle.std.proofs.Common.{◌≡◌, ℕ, zero, suc, ◌+◌, ◌<◌, ◌≤◌, ◌==◌, Bool, true, false, not, cond, ◌||◌, ◌&&◌, List, [], ◌∷◌, ◌++◌, Bor, length, take, drop, set, get_or, Option, None, Some, refl, sym, ap, ◌∙◌, arith}
use Rattle.std.specs.List.{list_any, slice_get, sum_by}
use Rattle.std.specs.Option.{option_or}
use Rattle.std.proofs.lemmas.Bool.{eq-eqb, ne_eqb, eqb-true, eqb-false}
use Rattle.std.proofs.lemmas.List.{drop_more, take_all, get_or-set_same, get_or-set_other}
use Rattle.std.proofs.lemmas.List.Sums.{sum_by-cons, sum_by-set, sum_by_more, get_or-le-sum_by}
use Rattle.std.proofs.lemmas.Option.{none-some, same_Some}
use Rattle.pyc_mro.specs.Merge.{contains, stands_in_tail, is_free, free_head, first_free}
use Rattle.pyc_mro.specs.Rows.{rows_in}
use Rattle.pyc_mro.specs.Tails.{tail_of, occurrences, AreTailCounts, free_by}

-- ---- a class is free where its count is 0

none_of : (b : Bool) (n : ℕ) → ((cond b 1 0 + n) == 0) ≡ (not b && (n == 0))
none_of true n = ne_eqb (1 + n) 0 (λ e. omega (arith, e))
none_of false n = let e : 0 + n ≡ n = omega arith in ap (λ m. m == 0) e

not_or : (a b : Bool) → (not a && not b) ≡ not (a || b)
not_or true b = refl
not_or false b = refl

sum_none : (a b : ℕ) → ((a + b) == 0) ≡ ((a == 0) && (b == 0))
sum_none a b = elim (a == 0) as (λ t. (a == 0) ≡ t → ((a + b) == 0) ≡ (t && (b == 0))) [
  | true ↦ λ e. let z : a ≡ 0 = eqb-true a 0 e in let s : a + b ≡ b = omega arith in ap (λ m. m == 0) s
  | false ↦ λ e. ne_eqb (a + b) 0 (λ q. let z : a ≡ 0 = omega (arith, q) in eqb-false a 0 e z)
] refl

-- a class that stands nowhere in a row
none_in : (row : List ℕ) (c : ℕ) → (occurrences row c == 0) ≡ not (contains row c)
none_in [] c = refl
none_in (other ∷ row) c =
    ap (λ n. n == 0) (sum_by-cons (λ (x : ℕ). cond (x == c) 1 0) other row)
    ∙ none_of (other == c) (occurrences row c) ∙ ap (λ b. not (other == c) && b) (none_in row c)
    ∙ not_or (other == c) (contains row c)

none_in_tail : (row : List ℕ) (c : ℕ) → (occurrences (tail_of row) c == 0) ≡ not (stands_in_tail c row)
none_in_tail [] c = refl
none_in_tail (head ∷ tail) c = none_in tail c

-- how often a class stands in the tail of a row
abbrev pub in_tail : ℕ → Bor (List ℕ) → ℕ
in_tail c row = occurrences (tail_of row.now) c

free_is : (rows : List (Bor (List ℕ))) (c : ℕ) → (sum_by (in_tail c) rows == 0) ≡ is_free (rows_in rows) c
free_is [] c = refl
free_is (row ∷ rows) c =
    ap (λ n. n == 0) (sum_by-cons (in_tail c) row rows)
    ∙ sum_none (in_tail c row) (sum_by (in_tail c) rows)
    ∙ ap (λ b. b && (sum_by (in_tail c) rows == 0)) (none_in_tail row.now c)
    ∙ ap (λ b. not (stands_in_tail c row.now) && b) (free_is rows c)
    ∙ not_or (stands_in_tail c row.now) (list_any (stands_in_tail c) (rows_in rows))

-- a free head by the counts is one by the rows
free_by_is : (counts : List ℕ) (rows : List (Bor (List ℕ))) (row : List ℕ) → AreTailCounts counts rows → free_by counts row ≡ free_head (rows_in rows) row
free_by_is counts rows [] are = refl
free_by_is counts rows (head ∷ tail) are =
    ap (λ n. cond (n == 0) (Some head) None) (are head) ∙ ap (λ b. cond b (Some head) None) (free_is rows head)

-- the head of a row, if its count is 0
pub free_by-at : (counts row : List ℕ) (head : ℕ) → Some head ≡ slice_get row 0 → cond (get_or counts head 0 == 0) (Some head) None ≡ free_by counts row
free_by-at counts [] head is = absurd (none-some head (sym is))
free_by-at counts (first ∷ row) head is = ap (λ h. cond (get_or counts h 0 == 0) (Some h) None) (same_Some head first is)

module _ (counts : List ℕ) (rows : List (Bor (List ℕ))) (i : ℕ) (d : Bor (List ℕ)) (found : Option ℕ) (are : AreTailCounts counts rows) (within : i < length rows)
    (is : found ≡ free_by counts (get_or rows i d).now) (before : first_free (rows_in rows) (rows_in (drop i rows)) ≡ first_free (rows_in rows) (rows_in rows)) where
  -- what is found at a row, and else behind it, is the whole
  first_step : option_or found (first_free (rows_in rows) (rows_in (drop (i + 1) rows))) ≡ first_free (rows_in rows) (rows_in rows)
  first_step =
      let rest : Option ℕ = first_free (rows_in rows) (rows_in (drop (i + 1) rows)) in
      ap (λ o. option_or o rest) (is ∙ free_by_is counts rows (get_or rows i d).now are)
      ∙ ap (λ l. first_free (rows_in rows) (rows_in l)) (sym (drop_more rows i d within)) ∙ before

  pub first_here : (head : ℕ) → found ≡ Some head → Some head ≡ first_free (rows_in rows) (rows_in rows)
  first_here head some = ap (λ o. option_or o (first_free (rows_in rows) (rows_in (drop (i + 1) rows)))) (sym some) ∙ first_step

  pub first_later : found ≡ None → first_free (rows_in rows) (rows_in (drop (i + 1) rows)) ≡ first_free (rows_in rows) (rows_in rows)
  first_later none = ap (λ o. option_or o (first_free (rows_in rows) (rows_in (drop (i + 1) rows)))) (sym none) ∙ first_step

-- ---- the counts of rows

-- one row more is counted
pub counted_more : (counts counts' : List ℕ) (rows : List (Bor (List ℕ))) (i : ℕ) (d : Bor (List ℕ)) (tail : List ℕ) → i < length rows
    → tail ≡ tail_of (get_or rows i d).now
    → ((c : ℕ) → get_or counts' c 0 ≡ get_or counts c 0 + occurrences tail c)
    → ((c : ℕ) → get_or counts c 0 ≡ sum_by (in_tail c) (take i rows))
    → (c : ℕ) → get_or counts' c 0 ≡ sum_by (in_tail c) (take (i + 1) rows)
counted_more counts counts' rows i d tail within is added before c =
    added c ∙ ap (λ n. n + occurrences tail c) (before c) ∙ ap (λ l. sum_by (in_tail c) (take i rows) + occurrences l c) is
    ∙ sym (sum_by_more (in_tail c) rows i d within)

-- all rows are counted
pub counted_all : (counts : List ℕ) (rows : List (Bor (List ℕ))) (i : ℕ) → length rows ≤ i
    → ((c : ℕ) → get_or counts c 0 ≡ sum_by (in_tail c) (take i rows)) → AreTailCounts counts rows
counted_all counts rows i past before c = before c ∙ ap (sum_by (in_tail c)) (take_all i rows past)

-- a row is replaced, and what is counted with it
pub replaced : (counts counts' : List ℕ) (rows : List (Bor (List ℕ))) (i : ℕ) (row d : Bor (List ℕ)) → i < length rows
    → ((c : ℕ) → get_or counts' c 0 + occurrences (tail_of (get_or rows i d).now) c ≡ get_or counts c 0 + occurrences (tail_of row.now) c)
    → AreTailCounts counts rows → AreTailCounts counts' (set rows i row)
replaced counts counts' rows i row d within step before c =
    let summed : sum_by (in_tail c) (set rows i row) + in_tail c (get_or rows i d) ≡ sum_by (in_tail c) rows + in_tail c row =
    sum_by-set (in_tail c) rows i row d within in
    omega (arith, step c, before c, summed)

-- what a row counts is within the whole
pub row_within : (counts : List ℕ) (rows : List (Bor (List ℕ))) (i : ℕ) (d : Bor (List ℕ)) → i < length rows → AreTailCounts counts rows
    → (c : ℕ) → occurrences (tail_of (get_or rows i d).now) c ≤ get_or counts c 0
row_within counts rows i d within are c =
    let part : in_tail c (get_or rows i d) ≤ sum_by (in_tail c) rows = get_or-le-sum_by (in_tail c) rows i d within in
    omega (arith, part, are c)

-- counts and rows that are the same
pub counts_kept : {counts counts' : List ℕ} {rows rows' : List (Bor (List ℕ))} → counts' ≡ counts → rows' ≡ rows → AreTailCounts counts rows → AreTailCounts counts' rows'
counts_kept same alike are c = ap (λ l. get_or l c 0) same ∙ are c ∙ sym (ap (sum_by (in_tail c)) alike)

-- ---- the counts of classes

-- one class more is counted
pub class_more : (before counts counts' classes : List ℕ) (i : ℕ) → i < length classes
    → ((c : ℕ) → get_or counts' c 0 ≡ get_or counts c 0 + cond (get_or classes i 0 == c) 1 0)
    → ((c : ℕ) → get_or counts c 0 ≡ get_or before c 0 + occurrences (take i classes) c)
    → (c : ℕ) → get_or counts' c 0 ≡ get_or before c 0 + occurrences (take (i + 1) classes) c
class_more before counts counts' classes i within added so_far c =
    let one = cond (get_or classes i 0 == c) 1 0 in
    let more : occurrences (take (i + 1) classes) c ≡ occurrences (take i classes) c + one = sum_by_more (λ (x : ℕ). cond (x == c) 1 0) classes i 0 within in
    let regrouped : (get_or before c 0 + occurrences (take i classes) c) + one ≡ get_or before c 0 + (occurrences (take i classes) c + one) = omega arith in
    added c ∙ ap (λ n. n + one) (so_far c) ∙ regrouped ∙ ap (λ n. get_or before c 0 + n) (sym more)

-- all are counted
pub class_all : (before counts classes : List ℕ) (i : ℕ) → length classes ≤ i
    → ((c : ℕ) → get_or counts c 0 ≡ get_or before c 0 + occurrences (take i classes) c)
    → (c : ℕ) → get_or counts c 0 ≡ get_or before c 0 + occurrences classes c
class_all before counts classes i past so_far c =
    so_far c ∙ ap (λ l. get_or before c 0 + occurrences l c) (take_all i classes past)

-- a count of 0 at the end
pub room_more : (counts : List ℕ) (c : ℕ) → get_or (counts ++ 0 ∷ []) c 0 ≡ get_or counts c 0
room_more [] zero = refl
room_more [] (suc c) = refl
room_more (count ∷ counts) zero = refl
room_more (count ∷ counts) (suc c) = room_more counts c

-- one count is another
count_at : (counts : List ℕ) (class n c : ℕ) → class < length counts → get_or (set counts class n) c 0 ≡ cond (class == c) n (get_or counts c 0)
count_at counts class n c within = elim (class == c) as (λ b. (class == c) ≡ b → get_or (set counts class n) c 0 ≡ cond b n (get_or counts c 0)) [
  | true ↦ λ e. ap (λ k. get_or (set counts class n) k 0) (sym (eqb-true class c e)) ∙ get_or-set_same counts class n 0 within
  | false ↦ λ e. get_or-set_other counts class c n 0 (λ q. eqb-false class c e (sym q))
] refl

-- a count is one more
pub once_more : (counts : List ℕ) (class n : ℕ) → class < length counts → n ≡ get_or counts class 0 + 1
    → (c : ℕ) → get_or (set counts class n) c 0 ≡ get_or counts c 0 + cond (class == c) 1 0
once_more counts class n within more c = elim (class == c) as (λ b. (class == c) ≡ b → get_or (set counts class n) c 0 ≡ get_or counts c 0 + cond b 1 0) [
  | true ↦ λ e.
      let same : class ≡ c = eqb-true class c e in
      count_at counts class n c within ∙ ap (λ b. cond b n (get_or counts c 0)) e ∙ more ∙ ap (λ k. get_or counts k 0 + 1) same
  | false ↦ λ e.
      let none : get_or counts c 0 ≡ get_or counts c 0 + 0 = omega arith in
      count_at counts class n c within ∙ ap (λ b. cond b n (get_or counts c 0)) e ∙ none
] refl

-- a count is one less
pub once_less : (counts : List ℕ) (class n : ℕ) → class < length counts → n + 1 ≡ get_or counts class 0
    → (c : ℕ) → get_or (set counts class n) c 0 + cond (class == c) 1 0 ≡ get_or counts c 0
once_less counts class n within less c = elim (class == c) as (λ b. (class == c) ≡ b → get_or (set counts class n) c 0 + cond b 1 0 ≡ get_or counts c 0) [
  | true ↦ λ e.
      let same : class ≡ c = eqb-true class c e in
      ap (λ m. m + 1) (count_at counts class n c within ∙ ap (λ b. cond b n (get_or counts c 0)) e) ∙ less ∙ ap (λ k. get_or counts k 0) same
  | false ↦ λ e.
      let none : get_or counts c 0 + 0 ≡ get_or counts c 0 = omega arith in
      ap (λ m. m + 0) (count_at counts class n c within ∙ ap (λ b. cond b n (get_or counts c 0)) e) ∙ none
] refl

-- what has a count is within the counts
pub counted_within : (counts : List ℕ) (class : ℕ) → 0 < get_or counts class 0 → class < length counts
counted_within [] class some = absurd (omega arith)
counted_within (count ∷ counts) zero some = omega arith
counted_within (count ∷ counts) (suc class) some = let rest : class < length counts = counted_within counts class some in omega arith

-- ---- the first of some classes is taken out of the counts

module _ (counts classes : List ℕ) (first : ℕ) (rest : List ℕ) (is : classes ≡ first ∷ rest) where
  split : (c : ℕ) → occurrences classes c ≡ cond (first == c) 1 0 + occurrences rest c
  split c = ap (λ l. occurrences l c) is ∙ sum_by-cons (λ (x : ℕ). cond (x == c) 1 0) first rest

  -- it has a count
  pub first_counted : ((c : ℕ) → occurrences classes c ≤ get_or counts c 0) → 0 < get_or counts first 0
  first_counted within =
      let one : ◌≡◌ {A = ℕ} (cond (first == first) 1 0) 1 = ap (λ (b : Bool). cond b 1 0) (eq-eqb first first refl) in
      let parts : occurrences classes first ≡ cond (first == first) 1 0 + occurrences rest first = split first in
      omega (arith, within first, parts, one)

  -- and then the others are counted
  pub first_taken : (counts' : List ℕ) → ((c : ℕ) → get_or counts' c 0 + cond (first == c) 1 0 ≡ get_or counts c 0)
      → (c : ℕ) → get_or counts' c 0 + occurrences classes c ≡ get_or counts c 0 + occurrences (tail_of classes) c
  first_taken counts' taken c =
      let one = cond (first == c) 1 0 in
      let left : occurrences (tail_of classes) c ≡ occurrences rest c = ap (λ l. occurrences (tail_of l) c) is in
      let regrouped : get_or counts' c 0 + (one + occurrences rest c) ≡ (get_or counts' c 0 + one) + occurrences rest c = omega arith in
      ap (λ n. get_or counts' c 0 + n) (split c) ∙ regrouped ∙ ap (λ n. n + occurrences rest c) (taken c)
      ∙ ap (λ n. get_or counts c 0 + n) (sym left)

  -- the tail of a row counts as it did
  pub tail_within : ((c : ℕ) → occurrences (tail_of classes) c ≤ get_or counts c 0) → (c : ℕ) → occurrences rest c ≤ get_or counts c 0
  tail_within within c =
      let left : occurrences (tail_of classes) c ≡ occurrences rest c = ap (λ l. occurrences (tail_of l) c) is in
      omega (arith, within c, left)

  pub tail_taken : (counts' : List ℕ) → ((c : ℕ) → get_or counts' c 0 + occurrences rest c ≡ get_or counts c 0 + occurrences (tail_of rest) c)
      → (c : ℕ) → get_or counts' c 0 + occurrences (tail_of classes) c ≡ get_or counts c 0 + occurrences (tail_of rest) c
  tail_taken counts' taken c = ap (λ l. get_or counts' c 0 + occurrences (tail_of l) c) is ∙ taken c

-- of no classes none is taken
pub none_taken : (counts classes : List ℕ) → length classes ≡ 0 → (c : ℕ) → get_or counts c 0 + occurrences classes c ≡ get_or counts c 0 + occurrences (tail_of classes) c
none_taken counts [] none c = refl
none_taken counts (first ∷ rest) none c = absurd (omega (arith, none))
