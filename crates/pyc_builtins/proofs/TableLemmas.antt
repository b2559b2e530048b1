-- Tables by names, split by the lengths of the names.
use Rattle.std.proofs.Common.{◌≡◌, ◌≢◌, ℕ, true, false, if◌then◌else◌, nat_eq, ◌==◌, List, [], ◌∷◌, length}
use Rattle.std.proofs.Common.{Some, refl, ap, ◌∙◌, arith}
use Rattle.std.proofs.lemmas.Bool.Decides.{nat_tests}
use Rattle.std.proofs.lemmas.Slice.Eq.{bytes_eq-Decides}
use Rattle.std.specs.Str.{bytes_eq}
use Rattle.pyc_builtins.specs.Tables.{lookup}

-- the entries of a table whose names have a length
abbrev pub of_length : {V : Type 0} → ℕ → List (List ℕ × V) → List (List ℕ × V)
of_length n [] = []
of_length n (entry ∷ table) = if length entry.0 == n then entry ∷ of_length n table else of_length n table

bytes_eq-apart : (xs ys : List ℕ) → length xs ≢ length ys → bytes_eq xs ys ≡ false
bytes_eq-apart xs ys apart =
    elim (bytes_eq xs ys) as (λ b. bytes_eq xs ys ≡ b → b ≡ false) [ true ↦ λ e. absurd (apart (ap length ((bytes_eq-Decides xs ys).0 e))) | false ↦ λ e. refl ] refl

apart_from_test : (m n : ℕ) → nat_eq m n ≡ false → m ≢ n
apart_from_test m n e = grind (arith, nat_tests)

-- a name is found among the entries of its length
pub lookup-of_length : {V : Type 0} (table : List (List ℕ × V)) (name : List ℕ) → lookup table name ≡ lookup (of_length (length name) table) name
lookup-of_length [] name = refl
lookup-of_length (entry ∷ table) name =
    elim (nat_eq (length entry.0) (length name)) as (λ b. nat_eq (length entry.0) (length name) ≡ b →
    lookup (entry ∷ table) name ≡ lookup (if b then entry ∷ of_length (length name) table else of_length (length name) table) name) [
      | true ↦ λ e. ap (λ rest. if bytes_eq entry.0 name then Some entry.1 else rest) (lookup-of_length table name)
      | false ↦ λ e. rw (bytes_eq-apart entry.0 name (apart_from_test _ _ e)) (lookup-of_length table name)
    ] refl

-- a name whose length is `n` is found among the entries of length `n`
pub lookup-among : {V : Type 0} (table : List (List ℕ × V)) (n : ℕ) (name : List ℕ) → length name ≡ n → lookup table name ≡ lookup (of_length n table) name
lookup-among table n name e = lookup-of_length table name ∙ ap (λ m. lookup (of_length m table) name) e

-- two numbers that differ are told apart
pub test_from_apart : (m n : ℕ) → n ≢ m → nat_eq m n ≡ false
test_from_apart m n apart = grind (arith, nat_tests)
