-- Where a text may be cut: after bytes of ASCII.
use Rattle.std.proofs.Common.{ℕ, zero, suc, ◌+◌, ◌<◌, ◌≤◌, Bool, true, List, length, drop, slice_index, nat_eq, false, ◌≡◌, refl, if◌then◌else◌, ◌++◌, sym, ap, ◌∙◌, IsUtf8, IsCharBoundary, subst, arith, add-one}
use Rattle.std.proofs.lemmas.Str.{IsCharBoundary-start, IsCharBoundary-after_ascii}
use Rattle.std.proofs.lemmas.List.Sums.{prefix_len_passes, prefix_len-le-length}
use Rattle.std.proofs.lemmas.Str.{IsCharBoundary-past_char}
use Rattle.std.proofs.lemmas.Bool.Decides.{nat_tests}
use Rattle.std.proofs.lemmas.Slice.Eq.{starts_is}
use Rattle.std.specs.Char.{encode_utf8}
use Rattle.std.specs.List.{prefix_len, starts_with}

-- a text may be cut where the byte before is one of ASCII
pub boundary_past : (text : List ℕ) (n : ℕ) → IsUtf8 text → n ≤ length text → ((k : ℕ) → n ≡ k + 1 → slice_index text k < 128) → IsCharBoundary text n
boundary_past text zero utf8 l low = IsCharBoundary-start text utf8
boundary_past text (suc n) utf8 l low = subst (IsCharBoundary text) (add-one n) (IsCharBoundary-after_ascii text n utf8 (omega (arith, l)) (low n (omega arith)))

-- a text may be cut after the bytes at its front that pass a test which bytes of ASCII alone pass
pub boundary_past_prefix : (p : ℕ → Bool) (low : (b : ℕ) → p b ≡ true → b < 128) (text : List ℕ) → IsUtf8 text → IsCharBoundary text (prefix_len p text)
boundary_past_prefix p low text utf8 =
    boundary_past text (prefix_len p text) utf8 (prefix_len-le-length p text) (λ k e. low (slice_index text k) (prefix_len_passes p text k 0 (omega (arith, e))))
