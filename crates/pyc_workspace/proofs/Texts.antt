-- What the test for UTF-8 answers.
use Rattle.std.proofs.Common.{◌≡◌, ℕ, true, false, List, Result, Ok, Err, refl, sym, rules}
use Rattle.std.proofs.lemmas.Str.{is_utf8-from_IsUtf8, IsUtf8-from_is_utf8}
use Rattle.std.specs.Prelude.{MatchResult, IsOk, is_ok}
use Rattle.std.specs.Str.{is_utf8, IsUtf8}

pub is_ok-utf8 : {A E : Type 0} (bytes : List ℕ) (r : Result A E) (P : A → Type 0) (Q : E → Type 0) → MatchResult r P Q
    → ((a : A) → P a → IsUtf8 bytes) → ((e : E) → Q e → ¬ (IsUtf8 bytes)) → is_ok r ≡ is_utf8 bytes
is_ok-utf8 bytes (Ok a) P Q h text no_text = sym (is_utf8-from_IsUtf8 bytes (text a h))
is_ok-utf8 bytes (Err e) P Q h text no_text =
    elim (is_utf8 bytes) as (λ b. is_utf8 bytes ≡ b → false ≡ b) [ true ↦ λ t. absurd (no_text e h (IsUtf8-from_is_utf8 bytes t)) | false ↦ λ _. refl ] refl

-- a text is read as one
pub IsOk-utf8 : {A E : Type 0} (bytes : List ℕ) (r : Result A E) (P : A → Type 0) (Q : E → Type 0) → MatchResult r P Q
    → ((e : E) → Q e → ¬ (IsUtf8 bytes)) → is_utf8 bytes ≡ true → IsOk r
IsOk-utf8 bytes (Ok a) P Q h no_text e = search rules
IsOk-utf8 bytes (Err fault) P Q h no_text e = absurd (no_text fault h (IsUtf8-from_is_utf8 bytes e))
