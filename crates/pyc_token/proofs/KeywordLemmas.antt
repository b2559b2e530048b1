-- The table of keywords, split by the lengths of their spellings.
use Rattle.std.proofs.Common.{◌≡◌, ◌≢◌, ℕ, true, false, if◌then◌else◌, nat_eq, ◌==◌, List, [], ◌∷◌, length, Some, None, refl, ap, ◌∙◌, arith}
use Rattle.std.proofs.lemmas.Bool.Decides.{nat_tests}
use Rattle.std.proofs.lemmas.Slice.Eq.{bytes_eq-Decides}
use Rattle.std.specs.Str.{bytes_eq}
use Rattle.pyc_token.specs.declared.tokens.Keyword.{Keyword}
use Rattle.pyc_token.specs.Names.{keywords, keyword_in}

-- the entries of a table whose spellings have a length
abbrev pub of_length : ℕ → List (List ℕ × Keyword) → List (List ℕ × Keyword)
of_length n [] = []
of_length n (entry ∷ table) = if length entry.0 == n then entry ∷ of_length n table else of_length n table

bytes_eq-apart : (xs ys : List ℕ) → length xs ≢ length ys → bytes_eq xs ys ≡ false
bytes_eq-apart xs ys apart =
    elim (bytes_eq xs ys) as (λ b. bytes_eq xs ys ≡ b → b ≡ false) [ true ↦ λ e. absurd (apart (ap length ((bytes_eq-Decides xs ys).0 e))) | false ↦ λ e. refl ] refl

apart_from_test : (m n : ℕ) → nat_eq m n ≡ false → m ≢ n
apart_from_test m n e = grind (arith, nat_tests)

-- a keyword is found among the entries of its length
pub keyword_in-of_length : (table : List (List ℕ × Keyword)) (name : List ℕ) → keyword_in table name ≡ keyword_in (of_length (length name) table) name
keyword_in-of_length [] name = refl
keyword_in-of_length (entry ∷ table) name =
    elim (nat_eq (length entry.0) (length name)) as (λ b. nat_eq (length entry.0) (length name) ≡ b →
    keyword_in (entry ∷ table) name ≡ keyword_in (if b then entry ∷ of_length (length name) table else of_length (length name) table) name) [
      | true ↦ λ e. ap (λ rest. if bytes_eq entry.0 name then Some entry.1 else rest) (keyword_in-of_length table name)
      | false ↦ λ e. rw (bytes_eq-apart entry.0 name (apart_from_test _ _ e)) (keyword_in-of_length table name)
    ] refl

pub keyword_among : (n : ℕ) (name : List ℕ) → length name ≡ n → keyword_in keywords name ≡ keyword_in (of_length n keywords) name
keyword_among n name e = keyword_in-of_length keywords name ∙ ap (λ m. keyword_in (of_length m keywords) name) e

test_from_apart : (m n : ℕ) → n ≢ m → nat_eq m n ≡ false
test_from_apart m n apart = grind (arith, nat_tests)

none_of_length : (n : ℕ) → n ≢ 2 → n ≢ 3 → n ≢ 4 → n ≢ 5 → n ≢ 6 → n ≢ 7 → n ≢ 8 → of_length n keywords ≡ []
unfolding keywords
none_of_length n a b c d e f g =
    simp (test_from_apart 2 n a, test_from_apart 3 n b, test_from_apart 4 n c, test_from_apart 5 n d, test_from_apart 6 n e, test_from_apart 7 n f, test_from_apart 8 n g)

-- no keyword has another length than 2 to 8
pub no_keyword : (name : List ℕ) → length name ≢ 2 → length name ≢ 3 → length name ≢ 4 → length name ≢ 5 → length name ≢ 6 → length name ≢ 7 → length name ≢ 8
    → keyword_in keywords name ≡ None
no_keyword name a b c d e f g =
    keyword_among (length name) name refl ∙ ap (λ table. keyword_in table name) (none_of_length (length name) a b c d e f g)
