-- The codes of an ignore comment, read one after another.
use Rattle.std.proofs.Common.{◌≡◌, ℕ, suc, ◌+◌, ◌-◌, ◌<◌, ◌≤◌, ◌==◌, true, false, List, [], ◌∷◌, ◌++◌, take, drop, length, if◌then◌else◌, Option, Some, None, option_map, option_and_then, refl, sym, ap, ◌∙◌, arith, length-drop, append_assoc}
use Rattle.std.specs.List.{prefix_len}
use Rattle.pyc_token.specs.declared.tokens.Span.{Span}
use Rattle.pyc_lex.specs.Ignores.{is_code_byte, trim_spaces, codes_at}

-- the codes so far before those of the rest are those of the whole, in the turns that are left
pub record IsListing (whole : Option (List Span)) (end : ℕ) (turns : ℕ) (spans : List Span) (at : ℕ) (rest : List ℕ) : Type 0 where
  pub value : option_map (λ later. spans ++ later) (codes_at turns at rest) ≡ whole
  pub position : at + length rest ≡ end
  pub enough : length rest + 1 ≤ turns

pub listing-start : (from turns : ℕ) (text : List ℕ) → turns ≡ length text + 1 → IsListing (codes_at (length text + 1) from text) (from + length text) turns [] from text
listing-start from turns text e = record {
  value =
      ap (λ (k : ℕ). option_map (λ later. [] ++ later) (codes_at k from text)) e
      ∙ elim (codes_at (length text + 1) from text) as (λ o. option_map (λ later. [] ++ later) o ≡ o) [ None ↦ refl | Some later ↦ refl ];
  position = refl;
  enough = omega (arith, e);
}

module _ (whole : Option (List Span)) (end turns : ℕ) (spans : List Span) (at : ℕ) (rest : List ℕ) (listing : IsListing whole end turns spans at rest)
    (fewer : ℕ) (n : turns ≡ suc fewer) (len : ℕ) (len_is : len ≡ prefix_len is_code_byte rest) where
  -- what one turn reads
  turn : (found : Option Span) → trim_spaces at (take len rest) ≡ found
      → option_map (λ later. spans ++ later) (option_and_then (λ code.
      if len == length rest then Some (code ∷ [])
      else option_map (λ later. code ∷ later) (codes_at fewer (at + len + 1) (drop (len + 1) rest))) found) ≡ whole
  unfolding codes_at
  turn found e =
      ap (λ (o : Option Span). option_map (λ later. spans ++ later) (option_and_then (λ code.
      if len == length rest then Some (code ∷ [])
      else option_map (λ later. code ∷ later) (codes_at fewer (at + len + 1) (drop (len + 1) rest))) o)) (sym e)
      ∙ ap (λ (k : ℕ). option_map (λ later. spans ++ later) (option_and_then (λ code.
      if k == length rest then Some (code ∷ [])
      else option_map (λ later. code ∷ later) (codes_at fewer (at + k + 1) (drop (k + 1) rest))) (trim_spaces at (take k rest)))) len_is
      ∙ ap (λ (k : ℕ). option_map (λ later. spans ++ later) (codes_at k at rest)) (sym n) ∙ listing.value

  pub listing-empty : None ≡ trim_spaces at (take len rest) → None ≡ whole
  listing-empty e = turn None (sym e)

  pub listing-last : (span : Span) → Some span ≡ trim_spaces at (take len rest) → (len == length rest) ≡ true → Some (spans ++ span ∷ []) ≡ whole
  listing-last span e last = rw last at (turn (Some span) (sym e))

  pub listing-step : (span : Span) (back : List ℕ) (next : ℕ) → Some span ≡ trim_spaces at (take len rest) → (len == length rest) ≡ false → len < length rest
      → back ≡ drop (len + 1) rest → next ≡ at + len + 1 → IsListing whole end fewer (spans ++ span ∷ []) next back
  listing-step span back next e more within dropped moved =
      let left : length back ≡ length rest - (len + 1) = ap length dropped ∙ length-drop (len + 1) rest in
      let so = rw more at (turn (Some span) (sym e)) in
      record {
        value =
            ap (λ (z : List ℕ). option_map (λ later. (spans ++ span ∷ []) ++ later) (codes_at fewer next z)) dropped
            ∙ ap (λ (k : ℕ). option_map (λ later. (spans ++ span ∷ []) ++ later) (codes_at fewer k (drop (len + 1) rest))) moved
            ∙ elim (codes_at fewer (at + len + 1) (drop (len + 1) rest)) as (λ o. option_map (λ later. (spans ++ span ∷ []) ++ later) o
            ≡ option_map (λ later. spans ++ later) (option_map (λ later. span ∷ later) o)) [
              | None ↦ refl
              | Some later ↦ ap Some (append_assoc spans (span ∷ []) later)
            ]
            ∙ so;
        position = omega (arith, left, moved, listing.position, within);
        enough = omega (arith, left, listing.enough, n, within);
      }
