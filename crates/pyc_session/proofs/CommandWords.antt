-- The words of a command line, where its first space is known.
use Rattle.std.proofs.Common.{◌≡◌, ℕ, ◌+◌, ◌-◌, ◌≤◌, suc, cond, Bool, true, false, List, [], ◌∷◌, length, take, take_all, drop, None, Some, refl, arith}
use Rattle.std.proofs.lemmas.List.{length-drop}
use Rattle.std.proofs.lemmas.List.Splits.{length-slice_split}
use Rattle.std.specs.List.{slice_split, onto_first, position_from}
use Rattle.pyc_session.specs.Command.{is_space, command_of, unknown}

-- the whole list is one part where no element passes
pub split_at_none : (p : ℕ → Bool) (n : ℕ) (xs : List ℕ) → position_from p n xs ≡ None → slice_split p xs ≡ xs ∷ []
split_at_none p n [] e = refl
split_at_none p n (x ∷ xs) e =
    elim (p x) as (λ t. (cond t (Some n) (position_from p (n + 1) xs)) ≡ None → (cond t ([] ∷ slice_split p xs) (onto_first x (slice_split p xs))) ≡ (x ∷ xs) ∷ []) [
      | true ↦ λ no. cc
      | false ↦ λ later. rw (split_at_none p (n + 1) xs later) refl
    ] e

-- else the first part ends before the first one
pub split_at_some : (p : ℕ → Bool) (n i : ℕ) (xs : List ℕ) → position_from p n xs ≡ Some i
    → (n ≤ i) × (slice_split p xs ≡ take (i - n) xs ∷ slice_split p (drop (i - n + 1) xs))
split_at_some p n i [] e = cc
split_at_some p n i (x ∷ xs) e =
    elim (p x) as (λ t. (cond t (Some n) (position_from p (n + 1) xs)) ≡ Some i → (n ≤ i) × ((cond t ([] ∷ slice_split p xs) (onto_first x (slice_split p xs))) ≡ take (i - n) (x ∷ xs) ∷ slice_split p (drop (i - n + 1) (x ∷ xs)))) [
      | true ↦ λ here.
          let same : n ≡ i = cc in
          let none : i - n ≡ 0 = omega arith in
          let one : i - n + 1 ≡ suc 0 = omega arith in
          (omega arith, rw (one, none) refl)
      | false ↦ λ later.
          let h = split_at_some p (n + 1) i xs later in
          let more : i - n ≡ suc (i - (n + 1)) = omega (arith, h.0) in
          let next : suc (i - (n + 1)) + 1 ≡ suc (i - (n + 1) + 1) = omega arith in
          (omega (arith, h.0), rw (more, next, h.1) refl)
    ] e

pub take_rest : (k : ℕ) (xs : List ℕ) → take (length xs - k) (drop k xs) ≡ drop k xs
take_rest k xs = take_all (length xs - k) (drop k xs) (omega (arith, length-drop k xs))

-- a word that a space ends, and what stands after it
pub word_cut : (line : List ℕ) (end : ℕ) → position_from is_space 0 line ≡ Some end
    → slice_split is_space line ≡ take end line ∷ slice_split is_space (take (length line - (end + 1)) (drop (end + 1) line))
word_cut line end e =
    let h = split_at_some is_space 0 end line e in
    let same : end - 0 ≡ end = omega arith in
    rw (take_rest (end + 1) line, h.1, same) refl

is_unknown_past_three : (word path count : List ℕ) (parts : List (List ℕ)) → (length parts ≡ 0 → ⊥) → command_of (word ∷ path ∷ count ∷ parts) ≡ unknown
is_unknown_past_three word path count [] some = absurd (some refl)
is_unknown_past_three word path count (part ∷ parts) some = refl

some_part : (line : List ℕ) → length (slice_split is_space line) ≡ 0 → ⊥
some_part line e = omega (arith, length-slice_split is_space line)

-- four words or more spell nothing
pub many_words : (word path count rest : List ℕ) → command_of (word ∷ path ∷ count ∷ slice_split is_space rest) ≡ unknown
many_words word path count rest = is_unknown_past_three word path count (slice_split is_space rest) (some_part rest)
