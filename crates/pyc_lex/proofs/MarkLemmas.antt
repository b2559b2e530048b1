-- Where a source may be cut: after its byte order mark.
use Rattle.std.proofs.Common.{ℕ, true, List, drop, nat_eq, false, ◌≡◌, refl, if◌then◌else◌, ◌++◌, sym, ap, ◌∙◌, IsUtf8, IsCharBoundary, arith}
use Rattle.std.proofs.lemmas.Str.{IsCharBoundary-start}
use Rattle.std.proofs.lemmas.Str.{IsCharBoundary-past_char}
use Rattle.std.proofs.lemmas.Bool.Decides.{nat_tests}
use Rattle.std.proofs.lemmas.Slice.Eq.{starts_is}
use Rattle.std.specs.Char.{encode_utf8}
use Rattle.std.specs.List.{starts_with}
use Rattle.pyc_lex.specs.Lines.{mark_len, byte_order_mark}

pub nat_decides : (a b : ℕ) → (nat_eq a b ≡ true → a ≡ b) × (a ≡ b → nat_eq a b ≡ true)
nat_decides a b = (λ e. grind (arith, nat_tests), λ e. grind (arith, nat_tests))

-- the mark is one character
mark_encoded : encode_utf8 0xFEFF ≡ byte_order_mark
unfolding encode_utf8
mark_encoded = refl

-- a source may be cut after its mark, which is one character
pub mark_boundary : (source : List ℕ) → IsUtf8 source → IsCharBoundary source (mark_len source)
unfolding mark_len
mark_boundary source utf8 =
    elim (starts_with nat_eq source byte_order_mark) as (λ b. starts_with nat_eq source byte_order_mark ≡ b → IsCharBoundary source (if b then 3 else 0)) [
      | true ↦ λ e.
          let is : source ≡ byte_order_mark ++ drop 3 source = (starts_is nat_decides source byte_order_mark (starts_with nat_eq source byte_order_mark) refl).0 e in
          IsCharBoundary-past_char source (drop 3 source) 0 0xFEFF (omega arith) utf8 (is ∙ ap (λ z. z ++ drop 3 source) (sym mark_encoded))
      | false ↦ λ e. IsCharBoundary-start source utf8
    ] refl
