-- Strings, read from one unit to the next, and an f-string's braces, read byte by byte.
use Rattle.std.proofs.Common.{◌≡◌, ℕ, zero, suc, ◌+◌, ◌-◌, ◌<◌, ◌≤◌, Bool, true, false, not, ◌||◌, ◌&&◌, ◌==◌, nat_eq, List, [], ◌∷◌, drop, length, slice_index, take, if◌then◌else◌, Option, Some, None, option_map, refl, sym, ap, subst, ◌∙◌, arith, one-add, length-drop}
use Rattle.std.proofs.Math.Bool.{and-false}
use Rattle.std.proofs.lemmas.Bool.{false≢true}
use Rattle.std.specs.List.{list_any, prefix_len, starts_with}
use Rattle.std.specs.Cmp.Lexicographic.{pointwise}
use Rattle.pyc_token.specs.Characters.{is_line_end, line_end_len}
use Rattle.pyc_token.specs.Strings.{unit_len, is_cut_off, is_inner, string_rest_len, without_doubled, has_open_brace}

-- ---- the quotes at the front of a text

-- a text that begins with another byte does not begin with the quotes
pub no_quotes : (text quotes : List ℕ) → 0 < length quotes → nat_eq (slice_index quotes 0) (slice_index text 0) ≡ false → starts_with nat_eq text quotes ≡ false
no_quotes text [] some apart = absurd (omega (arith, some))
no_quotes [] (quote ∷ quotes) some apart = refl
no_quotes (byte ∷ text) (quote ∷ quotes) some apart = ap (λ same. same && pointwise nat_eq quotes (take (length quotes) text)) apart

-- ---- the end of a string

pub string_rest_len-end : (turns : ℕ) (quotes rest : List ℕ) → length rest ≡ 0 → string_rest_len turns quotes rest ≡ None
unfolding string_rest_len
string_rest_len-end zero quotes rest e = refl
string_rest_len-end (suc turns) quotes [] e = refl
string_rest_len-end (suc turns) quotes (byte ∷ rest) e = absurd (omega (arith, e))

pub string_rest_len-closes : (turns : ℕ) (quotes rest : List ℕ) → 0 < turns → 0 < length rest → starts_with nat_eq rest quotes ≡ true
    → string_rest_len turns quotes rest ≡ Some (length quotes)
unfolding string_rest_len
string_rest_len-closes zero quotes rest t l e = absurd (omega (arith, t))
string_rest_len-closes (suc turns) quotes [] t l e = absurd (omega (arith, l))
string_rest_len-closes (suc turns) quotes (byte ∷ rest) t l e = rw e refl

pub string_rest_len-ends : (turns : ℕ) (quotes rest : List ℕ) → 0 < turns → 0 < length rest → starts_with nat_eq rest quotes ≡ false
    → is_cut_off quotes (slice_index rest 0) ≡ true → string_rest_len turns quotes rest ≡ None
unfolding string_rest_len
string_rest_len-ends zero quotes rest t l e f = absurd (omega (arith, t))
string_rest_len-ends (suc turns) quotes [] t l e f = absurd (omega (arith, l))
string_rest_len-ends (suc turns) quotes (byte ∷ rest) t l e f = rw (e, f) refl

pub string_rest_len-goes : (turns : ℕ) (quotes rest : List ℕ) → 0 < length rest → starts_with nat_eq rest quotes ≡ false
    → is_cut_off quotes (slice_index rest 0) ≡ false
    → string_rest_len (suc turns) quotes rest ≡ option_map (λ more. unit_len rest + more) (string_rest_len turns quotes (drop (unit_len rest) rest))
unfolding string_rest_len
string_rest_len-goes turns quotes [] l e f = absurd (omega (arith, l))
string_rest_len-goes turns quotes (byte ∷ rest) l e f = rw (e, f) refl

-- what is left of a string closes where the whole does; the definition goes on for `left` turns, and the loop for no
-- fewer than there are bytes
pub record IsClosing (quotes : List ℕ) (all : ℕ) (whole : Option ℕ) (turns : ℕ) (rest : List ℕ) : Type 0 where
  pub left : ℕ
  pub value : option_map (λ more. (all - length rest) + more) (string_rest_len left quotes rest) ≡ whole
  pub within : length rest ≤ all
  pub enough : length rest ≤ left
  pub ends : length rest ≤ turns

pub closing-start : (quotes text : List ℕ) (turns : ℕ) → turns ≡ length text → IsClosing quotes (length text) (string_rest_len (length text) quotes text) turns text
closing-start quotes text turns e = record {
  left = length text;
  value =
      elim (string_rest_len (length text) quotes text) as (λ o. option_map (λ more. (length text - length text) + more) o ≡ o) [
        | None ↦ refl
        | Some n ↦ ap Some (omega arith)
      ];
  within = omega arith;
  enough = omega arith;
  ends = omega (arith, e);
}

module _ (quotes : List ℕ) (all : ℕ) (whole : Option ℕ) (turns : ℕ) (rest : List ℕ) (closing : IsClosing quotes all whole turns rest) where
  -- a whole that is none, once the rest is none
  none_at : string_rest_len closing.left quotes rest ≡ None → None ≡ whole
  none_at e = ap (option_map (λ more. (all - length rest) + more)) (sym e) ∙ closing.value

  pub closing-end : length rest ≡ 0 → None ≡ whole
  closing-end e = none_at (string_rest_len-end closing.left quotes rest e)

  pub closing-out_of_turns : turns ≡ 0 → None ≡ whole
  closing-out_of_turns e = closing-end (omega (arith, closing.ends, e))

  pub closing-closes : 0 < length rest → starts_with nat_eq rest quotes ≡ true → Some ((all - length rest) + length quotes) ≡ whole
  closing-closes l e =
      ap (option_map (λ more. (all - length rest) + more)) (sym (string_rest_len-closes closing.left quotes rest (omega (arith, closing.enough, l)) l e)) ∙ closing.value

  pub closing-ends : 0 < length rest → starts_with nat_eq rest quotes ≡ false → is_cut_off quotes (slice_index rest 0) ≡ true → None ≡ whole
  closing-ends l e f = none_at (string_rest_len-ends closing.left quotes rest (omega (arith, closing.enough, l)) l e f)

  -- the rest goes on after one more unit
  goes : 0 < length rest → starts_with nat_eq rest quotes ≡ false → is_cut_off quotes (slice_index rest 0) ≡ false
      → option_map (λ more. (all - length rest) + more) (option_map (λ more. unit_len rest + more) (string_rest_len (closing.left - 1) quotes (drop (unit_len rest) rest))) ≡ whole
  goes l e f =
      let n : closing.left ≡ suc (closing.left - 1) = omega (arith, closing.enough, l) in
      ap (option_map (λ more. (all - length rest) + more)) (sym (string_rest_len-goes (closing.left - 1) quotes rest l e f))
      ∙ ap (λ (k : ℕ). option_map (λ more. (all - length rest) + more) (string_rest_len k quotes rest)) (sym n) ∙ closing.value

  pub closing-past : (len : ℕ) → 0 < length rest → starts_with nat_eq rest quotes ≡ false → is_cut_off quotes (slice_index rest 0) ≡ false
      → len ≡ unit_len rest → length rest < len → None ≡ whole
  closing-past len l e f is past =
      ap (λ (o : Option ℕ). option_map (λ more. (all - length rest) + more) (option_map (λ more. unit_len rest + more) o))
      (sym (string_rest_len-end (closing.left - 1) quotes (drop (unit_len rest) rest) (omega (arith, length-drop (unit_len rest) rest, is, past)))) ∙ goes l e f

  pub closing-step : (len fewer : ℕ) (back : List ℕ) → 0 < length rest → starts_with nat_eq rest quotes ≡ false
      → is_cut_off quotes (slice_index rest 0) ≡ false → len ≡ unit_len rest → len ≤ length rest → 1 ≤ len → back ≡ drop len rest
      → length back ≤ fewer → IsClosing quotes all whole fewer back
  closing-step len fewer back l e f is most least dropped few =
      let shorter : length back ≡ length rest - len = ap length dropped ∙ length-drop len rest in
      let so : back ≡ drop (unit_len rest) rest = dropped ∙ ap (λ (k : ℕ). drop k rest) is in
      record {
        left = closing.left - 1;
        value =
            elim (string_rest_len (closing.left - 1) quotes back) as (λ o. option_map (λ more. (all - length back) + more) o
            ≡ option_map (λ more. (all - length rest) + more) (option_map (λ more. unit_len rest + more) o)) [
              | None ↦ refl
              | Some more ↦ ap Some (omega (arith, shorter, is, most, closing.within))
            ]
            ∙ ap (λ (z : List ℕ). option_map (λ more. (all - length rest) + more) (option_map (λ more. unit_len rest + more) (string_rest_len (closing.left - 1) quotes z))) so
            ∙ goes l e f;
        within = omega (arith, shorter, closing.within);
        enough = omega (arith, shorter, closing.enough, least);
        ends = few;
      }

-- ---- bytes that go by themselves

three_false : (a b c : Bool) → (not a && (not b && not c)) ≡ true → (a ≡ false) × ((b ≡ false) × (c ≡ false))
three_false true b c e = absurd (false≢true e)
three_false false true c e = absurd (false≢true e)
three_false false false true e = absurd (false≢true e)
three_false false false false e = (refl, (refl, refl))

-- one such byte at the front is past
closing-inner : (quotes : List ℕ) (all : ℕ) (whole : Option ℕ) (turns byte : ℕ) (rest : List ℕ) → 0 < length quotes
    → is_inner (slice_index quotes 0) byte ≡ true → IsClosing quotes all whole turns (byte ∷ rest) → IsClosing quotes all whole turns rest
closing-inner quotes all whole turns byte rest some inner closing =
    let tests = three_false (slice_index quotes 0 == byte) (byte == 92) (is_line_end byte) inner in
    closing-step quotes all whole turns (byte ∷ rest) closing 1 turns rest (omega arith)
    (no_quotes (byte ∷ rest) quotes some tests.0)
    (ap (λ b. length quotes == 1 && b) tests.1.1 ∙ and-false (length quotes == 1))
    (sym (ap (λ b. if b then 1 + line_end_len rest else 1) tests.1.0))
    (omega arith) (omega arith) refl (omega (arith, closing.ends))

-- all of them at the front are past
pub closing-run : (quotes : List ℕ) (all : ℕ) (whole : Option ℕ) (turns : ℕ) (rest : List ℕ) → 0 < length quotes → IsClosing quotes all whole turns rest
    → IsClosing quotes all whole turns (drop (prefix_len (is_inner (slice_index quotes 0)) rest) rest)
closing-run quotes all whole turns [] some closing = closing
closing-run quotes all whole turns (byte ∷ rest) some closing =
    elim (is_inner (slice_index quotes 0) byte) as (λ b. is_inner (slice_index quotes 0) byte ≡ b
    → IsClosing quotes all whole turns (drop (if b then 1 + prefix_len (is_inner (slice_index quotes 0)) rest else 0) (byte ∷ rest))) [
      | true ↦ λ inner.
          subst (λ (n : ℕ). IsClosing quotes all whole turns (drop n (byte ∷ rest))) (sym (one-add (prefix_len (is_inner (slice_index quotes 0)) rest)))
          (closing-run quotes all whole turns rest some (closing-inner quotes all whole turns byte rest some inner closing))
      | false ↦ λ _. closing
    ] refl

-- bytes at the front that go by themselves are past, where a call counted `count` of them and `back` is what is left
pub closing-past_run : (quotes : List ℕ) (all : ℕ) (whole : Option ℕ) (turns : ℕ) (rest : List ℕ) (quote count : ℕ) (back : List ℕ) → 0 < length quotes
    → quote ≡ slice_index quotes 0 → count ≡ prefix_len (is_inner quote) rest → back ≡ drop count rest → IsClosing quotes all whole turns rest
    → IsClosing quotes all whole turns back
closing-past_run quotes all whole turns rest quote count back some is counted dropped closing =
    subst (IsClosing quotes all whole turns)
    (sym (dropped ∙ ap (λ (k : ℕ). drop k rest) (counted ∙ ap (λ (q : ℕ). prefix_len (is_inner q) rest) is)))
    (closing-run quotes all whole turns rest some closing)

-- ---- braces

-- whether a field is open at the end of a text, where one may be open at its front
abbrev pub open_after : Bool → List ℕ → Bool
open_after is_open text = has_open_brace text || is_open && not (list_any (λ later. later == 125) text)

-- whether a field is open at the end of a text, where one may be open at its front, and a `{` may stand before it
abbrev pub left_open : Bool → Bool → List ℕ → Bool
left_open is_open follows_brace text = open_after is_open (without_doubled false (if follows_brace then 123 ∷ text else text))
