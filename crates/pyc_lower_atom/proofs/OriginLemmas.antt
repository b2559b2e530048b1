-- The text of a source at a span, where it is one and where it is none.
use Rattle.std.proofs.Common.{◌≡◌, ℕ, ◌≤◌, Bool, true, false, List, [], length, slice_range, nat_le, ◌&&◌, refl, sym, subst, arith}
use Rattle.std.proofs.lemmas.Bool.{cond-true}
use Rattle.std.proofs.lemmas.Bool.Decides.{nat_tests}
use Rattle.std.proofs.lemmas.Str.{is_utf8-from_IsUtf8, IsUtf8-from_is_utf8}
use Rattle.std.specs.Str.{IsUtf8, is_utf8}
use Rattle.pyc_lower_atom.specs.Origins.{text_at, is_text_span}
use Rattle.pyc_token.specs.declared.tokens.Span.{Span}

within_is : (a b c : ℕ) (u : Bool) → a ≤ b → b ≤ c → u ≡ true → nat_le a b && (nat_le b c && u) ≡ true
within_is a b c u h k e = grind (arith, nat_tests)

not_text : (a b : Bool) → a && (b && false) ≡ false
not_text true true = refl
not_text true false = refl
not_text false b = refl

-- a span of bytes that are text
pub text_at-text : (source bytes : List ℕ) (span : Span) → span.start ≤ span.end → span.end ≤ length source → bytes ≡ slice_range source span.start span.end → IsUtf8 bytes
    → bytes ≡ text_at source span
unfolding text_at
text_at-text source bytes span h k e u =
    let t : is_utf8 (slice_range source span.start span.end) ≡ true = is_utf8-from_IsUtf8 _ (subst IsUtf8 e u) in
    rw (cond-true (is_text_span source span) (slice_range source span.start span.end) [] (within_is _ _ _ _ h k t)) e

is_false : (b : Bool) → (b ≡ true → ⊥) → b ≡ false
is_false true h = absurd (h refl)
is_false false h = refl

-- a span of bytes that are none
pub text_at-bytes : (source bytes : List ℕ) (span : Span) → bytes ≡ slice_range source span.start span.end → (IsUtf8 bytes → ⊥) → [] ≡ text_at source span
unfolding text_at
text_at-bytes source bytes span e not =
    let t : is_utf8 (slice_range source span.start span.end) ≡ false = is_false _ (λ h. not (subst IsUtf8 (sym e) (IsUtf8-from_is_utf8 _ h))) in
    rw t (rw (not_text (nat_le span.start span.end) (nat_le span.end (length source))) refl)
