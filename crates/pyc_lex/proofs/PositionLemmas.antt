-- The position after printed characters of ASCII.
use Rattle.std.proofs.Common.{◌≡◌, ℕ, ◌+◌, ◌&&◌, Bool, true, false, List, [], ◌∷◌, drop, slice_index, if◌then◌else◌, refl, sym, ap, ◌∙◌, arith, one-add, add-zero}
use Rattle.std.proofs.lemmas.Bool.Decides.{nat_tests}
use Rattle.std.proofs.lemmas.Grind.{common_steps}
use Rattle.std.specs.List.{prefix_len}
use Rattle.pyc_lex.specs.declared.positions.Position.{Position}
use Rattle.pyc_lex.specs.Positions.{is_printed, position_past, position_after}

-- a position some columns on
abbrev pub moved_by : Position → ℕ → Position
moved_by at count = record { line = at.line; column = at.column + count }

printed_past : (at : Position) (byte next : ℕ) → is_printed byte ≡ true → position_past at byte next ≡ moved_by at 1
printed_past at byte next printed = grind (arith, nat_tests, common_steps)

moved_none : (at : Position) → moved_by at 0 ≡ at
moved_none at = ap {B = Position} (λ n. record { line = at.line; column = n }) (add-zero at.column)

moved_more : (at : Position) (count : ℕ) → moved_by (moved_by at 1) count ≡ moved_by at (1 + count)
moved_more at count = ap {B = Position} (λ n. record { line = at.line; column = n }) (omega arith)

-- printed characters at the front of a text take a column each
pub printed_front : (at : Position) (text : List ℕ)
    → position_after (moved_by at (prefix_len is_printed text)) (drop (prefix_len is_printed text) text) ≡ position_after at text
printed_front at [] = moved_none at
printed_front at (byte ∷ rest) =
    elim (is_printed byte) as (λ b. is_printed byte ≡ b
    → position_after (moved_by at (if b then 1 + prefix_len is_printed rest else 0)) (drop (if b then 1 + prefix_len is_printed rest else 0) (byte ∷ rest))
    ≡ position_after at (byte ∷ rest)) [
      | true ↦ λ printed.
          ap (λ (n : ℕ). position_after (moved_by at (1 + prefix_len is_printed rest)) (drop n (byte ∷ rest))) (one-add (prefix_len is_printed rest))
          ∙ (ap (λ (p : Position). position_after p (drop (prefix_len is_printed rest) rest)) (sym (moved_more at (prefix_len is_printed rest)))
          ∙ (printed_front (moved_by at 1) rest
          ∙ ap (λ (p : Position). position_after p rest) (sym (printed_past at byte (slice_index rest 0) printed))))
      | false ↦ λ _. ap (λ (p : Position). position_after p (byte ∷ rest)) (moved_none at)
    ] refl

-- printed characters at the front of a text, which a call counted as `count`, take a column each
pub printed_counted : (at : Position) (text : List ℕ) (count : ℕ) → count ≡ prefix_len is_printed text
    → position_after (moved_by at count) (drop count text) ≡ position_after at text
printed_counted at text count counted = ap (λ (n : ℕ). position_after (moved_by at n) (drop n text)) counted ∙ printed_front at text
