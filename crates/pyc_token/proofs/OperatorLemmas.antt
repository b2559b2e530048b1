-- The table of operators, split by the bytes that they begin with.
use Rattle.std.proofs.Common.{◌≡◌, ◌≢◌, ℕ, Bool, true, false, ◌&&◌, if◌then◌else◌, nat_eq, ◌==◌, List, [], ◌∷◌, length, slice_index, Some, None, refl, ap, ◌∙◌, arith}
use Rattle.std.proofs.lemmas.Bool.Decides.{nat_tests}
use Rattle.std.specs.List.{starts_with}
use Rattle.pyc_token.specs.declared.tokens.Kind.{Kind}
use Rattle.pyc_token.specs.Operators.{operators, operator_in}

-- the entries of a table whose spellings begin with a byte
abbrev pub of_first : ℕ → List (List ℕ × Kind) → List (List ℕ × Kind)
of_first b [] = []
of_first b (entry ∷ table) = if slice_index entry.0 0 == b then entry ∷ of_first b table else of_first b table

-- whether a spelling has a byte
abbrev is_spelled : List ℕ → Bool
is_spelled [] = false
is_spelled (x ∷ xs) = true

-- whether each entry of a table has a spelling
abbrev all_spelled : List (List ℕ × Kind) → Bool
all_spelled [] = true
all_spelled (entry ∷ table) = is_spelled entry.0 && all_spelled table

both : (a b : Bool) → (a && b) ≡ true → (a ≡ true) × (b ≡ true)
both true b e = (refl, e)
both false b e = cc

starts_with-apart : (spelling text : List ℕ) → is_spelled spelling ≡ true → nat_eq (slice_index spelling 0) (slice_index text 0) ≡ false
    → starts_with nat_eq text spelling ≡ false
starts_with-apart [] text e apart = cc
starts_with-apart (x ∷ xs) [] e apart = refl
starts_with-apart (x ∷ xs) (y ∷ ys) e apart = rw apart refl

-- an operator is found among the entries that begin as the text does
pub operator_in-of_first : (table : List (List ℕ × Kind)) (text : List ℕ) → all_spelled table ≡ true
    → operator_in table text ≡ operator_in (of_first (slice_index text 0) table) text
operator_in-of_first [] text spelled = refl
operator_in-of_first (entry ∷ table) text spelled =
    let parts = both (is_spelled entry.0) (all_spelled table) spelled in
    elim (nat_eq (slice_index entry.0 0) (slice_index text 0)) as (λ b. nat_eq (slice_index entry.0 0) (slice_index text 0) ≡ b →
    operator_in (entry ∷ table) text ≡ operator_in (if b then entry ∷ of_first (slice_index text 0) table else of_first (slice_index text 0) table) text) [
      | true ↦ λ e. ap (λ rest. if starts_with nat_eq text entry.0 then Some (entry.1, length entry.0) else rest) (operator_in-of_first table text parts.1)
      | false ↦ λ e. rw (starts_with-apart entry.0 text parts.0 e) (operator_in-of_first table text parts.1)
    ] refl

spelled_operators : all_spelled operators ≡ true
unfolding operators
spelled_operators = refl

pub operator_among : (b : ℕ) (text : List ℕ) → slice_index text 0 ≡ b → operator_in operators text ≡ operator_in (of_first b operators) text
operator_among b text e = operator_in-of_first operators text spelled_operators ∙ ap (λ m. operator_in (of_first m operators) text) e

test_from_apart : (m n : ℕ) → n ≢ m → nat_eq m n ≡ false
test_from_apart m n apart = grind (arith, nat_tests)

none_of_first : (b : ℕ) → b ≢ 42 → b ≢ 47 → b ≢ 62 → b ≢ 60 → b ≢ 46 → b ≢ 45 → b ≢ 58 → b ≢ 61 → b ≢ 33 → b ≢ 43 → b ≢ 37 → b ≢ 64 → b ≢ 38 → b ≢ 124 → b ≢ 94 → b ≢ 126 → b ≢ 40 → b ≢ 41 → b ≢ 91 → b ≢ 93 → b ≢ 123 → b ≢ 125 → b ≢ 44 → b ≢ 59 → of_first b operators ≡ []
unfolding operators
none_of_first b h42 h47 h62 h60 h46 h45 h58 h61 h33 h43 h37 h64 h38 h124 h94 h126 h40 h41 h91 h93 h123 h125 h44 h59 =
    simp (test_from_apart 42 b h42, test_from_apart 47 b h47, test_from_apart 62 b h62, test_from_apart 60 b h60, test_from_apart 46 b h46, test_from_apart 45 b h45, test_from_apart 58 b h58, test_from_apart 61 b h61, test_from_apart 33 b h33, test_from_apart 43 b h43, test_from_apart 37 b h37, test_from_apart 64 b h64, test_from_apart 38 b h38, test_from_apart 124 b h124, test_from_apart 94 b h94, test_from_apart 126 b h126, test_from_apart 40 b h40, test_from_apart 41 b h41, test_from_apart 91 b h91, test_from_apart 93 b h93, test_from_apart 123 b h123, test_from_apart 125 b h125, test_from_apart 44 b h44, test_from_apart 59 b h59)

-- no operator begins with another byte
pub no_operator : (text : List ℕ) → slice_index text 0 ≢ 42 → slice_index text 0 ≢ 47 → slice_index text 0 ≢ 62 → slice_index text 0 ≢ 60 → slice_index text 0 ≢ 46 → slice_index text 0 ≢ 45 → slice_index text 0 ≢ 58 → slice_index text 0 ≢ 61 → slice_index text 0 ≢ 33 → slice_index text 0 ≢ 43 → slice_index text 0 ≢ 37 → slice_index text 0 ≢ 64 → slice_index text 0 ≢ 38 → slice_index text 0 ≢ 124 → slice_index text 0 ≢ 94 → slice_index text 0 ≢ 126 → slice_index text 0 ≢ 40 → slice_index text 0 ≢ 41 → slice_index text 0 ≢ 91 → slice_index text 0 ≢ 93 → slice_index text 0 ≢ 123 → slice_index text 0 ≢ 125 → slice_index text 0 ≢ 44 → slice_index text 0 ≢ 59 → operator_in operators text ≡ None
no_operator text h42 h47 h62 h60 h46 h45 h58 h61 h33 h43 h37 h64 h38 h124 h94 h126 h40 h41 h91 h93 h123 h125 h44 h59 =
    operator_among (slice_index text 0) text refl ∙ ap (λ table. operator_in table text) (none_of_first (slice_index text 0) h42 h47 h62 h60 h46 h45 h58 h61 h33 h43 h37 h64 h38 h124 h94 h126 h40 h41 h91 h93 h123 h125 h44 h59)
