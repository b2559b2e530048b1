-- Places by number, some of them with a value.
use Rattle.std.proofs.Common.{◌≡◌, ◌≢◌, ℕ, zero, suc, ◌+◌, ◌<◌, ◌≤◌, ◌==◌, Bool, true, false, nat_lt, List, [], ◌∷◌, ◌++◌, length, get_or, set, Option, None, Some, is_some, option_map, if◌then◌else◌, refl, sym, ap, ◌∙◌, arith}
use Rattle.std.proofs.lemmas.Bool.{eqb-true, eqb-false, eq-eqb, ltb-true, ltb-false}
use Rattle.std.proofs.lemmas.List.{get_or_past, get_or-set_same, get_or-set_other}
use Rattle.pyc_keys.proofs.NumberingLemmas.{changed_at}
use Rattle.pyc_keys.specs.Numbering.{Numbering, with_item, without}
use Rattle.pyc_known_answers.specs.KnownAnswers.{restrict_to_held}

module _ {A : Type 0} where
  -- a number that is freed
  pub freed_at : (old new : Numbering A) (i : ℕ) → new i ≡ None → ((j : ℕ) → j ≢ i → new j ≡ old j) → new ≡ without old i
  freed_at old new i freed others = λ t j. at j t
    where
      at : (j : ℕ) → new j ≡ without old i j
      at j = elim (i == j) as (λ b. (i == j) ≡ b → new j ≡ (if b then None else old j)) [
        | true ↦ λ e. ap new (sym (eqb-true i j e)) ∙ freed
        | false ↦ λ e. others j (λ same. eqb-false i j e (sym same))
      ] refl

  -- one that was free
  pub free_before : (held : Numbering A) (i : ℕ) → held i ≡ None → held ≡ without held i
  free_before held i free = freed_at held held i free (λ j other. refl)

module _ {A B : Type 0} (f : B → A) where
  -- what each number stands for
  abbrev pub at_slot : List (Option B) → Numbering A
  at_slot slots i = option_map f (get_or slots i None)

  empty_last : (slots : List (Option B)) (i : ℕ) → get_or (slots ++ None ∷ []) i None ≡ get_or slots i None
  empty_last [] zero = refl
  empty_last [] (suc i) = refl
  empty_last (x ∷ xs) zero = refl
  empty_last (x ∷ xs) (suc i) = empty_last xs i

  -- one place more
  pub with_place : (slots : List (Option B)) → at_slot (slots ++ None ∷ []) ≡ at_slot slots
  with_place slots = λ t i. ap (option_map f) (empty_last slots i) t

  -- a value at a number
  pub put_at : (slots : List (Option B)) (i : ℕ) (x : B) → i < length slots → at_slot (set slots i (Some x)) ≡ with_item (at_slot slots) i (f x)
  put_at slots i x within =
      changed_at (at_slot slots) (at_slot (set slots i (Some x))) i (f x)
      (ap (option_map f) (get_or-set_same slots i (Some x) None within))
      (λ j other. ap (option_map f) (get_or-set_other slots i j (Some x) None other))

  -- none at a number
  pub taken_at : (slots : List (Option B)) (i : ℕ) → i < length slots → at_slot (set slots i None) ≡ without (at_slot slots) i
  taken_at slots i within =
      freed_at (at_slot slots) (at_slot (set slots i None)) i
      (ap (option_map f) (get_or-set_same slots i None None within))
      (λ j other. ap (option_map f) (get_or-set_other slots i j None None other))

  -- past the last place there is none
  pub none_past : (slots : List (Option B)) (i : ℕ) → length slots ≤ i → at_slot slots i ≡ None
  none_past slots i past = ap (option_map f) (get_or_past slots i None past)

-- up to a number just those are left that are held
pub record Passed {A B : Type 0} (held : Numbering A) (n : ℕ) (before now : Numbering B) : Type 0 where
  pub done : (i : ℕ) → i < n → now i ≡ restrict_to_held held before i
  pub left : (i : ℕ) → n ≤ i → now i ≡ before i

module _ {A B : Type 0} (held : Numbering A) where
  pub passed_begin : (known : Numbering B) → Passed held 0 known known
  passed_begin known = record { done = λ i below. absurd (omega (arith, below)); left = λ i past. refl }

  other_stays : (b : Bool) (now : Numbering B) (n i : ℕ) → (n == i) ≡ false → (if b then now else without now n) i ≡ now i
  other_stays true now n i e = refl
  other_stays false now n i e = ap (λ c. if c then None else now i) e

  own_goes : (b : Bool) (now : Numbering B) (n : ℕ) → (if b then now else without now n) n ≡ (if b then now n else None)
  own_goes true now n = refl
  own_goes false now n = ap (λ c. if c then None else now n) (eq-eqb n n refl)

  pub passed_next : (n : ℕ) (known now new : Numbering B) → Passed held n known now
      → new ≡ (if is_some (held n) then now else without now n) → Passed held (n + 1) known new
  passed_next n known now new passed step = record { done = done; left = left }
    where
      other : (i : ℕ) → (n == i) ≡ false → new i ≡ now i
      other i e = ap (λ g. g i) step ∙ other_stays (is_some (held n)) now n i e

      own : new n ≡ restrict_to_held held known n
      own =
          ap (λ g. g n) step ∙ own_goes (is_some (held n)) now n
          ∙ ap (λ x. if is_some (held n) then x else None) (passed.left n (omega arith))

      done : (i : ℕ) → i < n + 1 → new i ≡ restrict_to_held held known i
      done i below = elim (n == i) as (λ b. (n == i) ≡ b → new i ≡ restrict_to_held held known i) [
        | true ↦ λ e. let same : n ≡ i = eqb-true n i e in ap new (sym same) ∙ own ∙ ap (restrict_to_held held known) same
        | false ↦ λ e. let apart : n ≢ i = eqb-false n i e in other i e ∙ passed.done i (omega (arith, below, apart))
      ] refl

      left : (i : ℕ) → n + 1 ≤ i → new i ≡ known i
      left i past = elim (n == i) as (λ b. (n == i) ≡ b → new i ≡ known i) [
        | true ↦ λ e. let same : n ≡ i = eqb-true n i e in absurd (omega (arith, past, same))
        | false ↦ λ e. other i e ∙ passed.left i (omega (arith, past))
      ] refl

  none_held : (b : Bool) (x : Option B) → x ≡ None → (if b then x else None) ≡ None
  none_held true x none = none
  none_held false x none = refl

  pub passed_end : (n : ℕ) (known now : Numbering B) → Passed held n known now → ((i : ℕ) → n ≤ i → known i ≡ None) → now ≡ restrict_to_held held known
  passed_end n known now passed past = λ t i. at i t
    where
      at : (i : ℕ) → now i ≡ restrict_to_held held known i
      at i = elim (nat_lt i n) as (λ b. nat_lt i n ≡ b → now i ≡ restrict_to_held held known i) [
        | true ↦ λ e. passed.done i (ltb-true i n e)
        | false ↦ λ e.
            let beyond : n ≤ i = ltb-false i n e in
            passed.left i beyond ∙ past i beyond ∙ sym (none_held (is_some (held i)) (known i) (past i beyond))
      ] refl

-- where all places are passed
pub passed_whole : {A B C : Type 0} (f : C → B) (held : Numbering A) (slots : List (Option C)) (n : ℕ) (now : Numbering B)
    → Passed held n (at_slot f slots) now → length slots ≤ n → now ≡ restrict_to_held held (at_slot f slots)
passed_whole f held slots n now passed whole =
    passed_end held n (at_slot f slots) now passed
    (λ i past. let beyond : length slots ≤ i = omega (arith, past, whole) in none_past f slots i beyond)
