-- The tokens of a source, and the slices of the source at their spans.
use Rattle.std.proofs.Common.{◌≡◌, ◌≤◌, ◌<◌, ◌+◌, ◌-◌, ◌==◌, ℕ, zero, suc, true, false, if◌then◌else◌, List, [], ◌∷◌, ◌++◌, map, length, take, drop, IsUtf8, Option, Some, None, Ok, Err, refl, sym, ap, subst, ◌∙◌, arith, append_assoc, length-append, length-take}
use Rattle.std.proofs.lemmas.List.{append-nil, map-append, take-append-drop, take_at, drop_at}
use Rattle.std.proofs.lemmas.List.Elements.{All-nil, All-cons, All-append}
use Rattle.std.proofs.lemmas.Str.{IsUtf8-take, IsUtf8-drop}
use Rattle.std.specs.List.{All}
use Rattle.pyc_token.specs.declared.tokens.Kind.{Kind}
use Rattle.pyc_token.specs.declared.tokens.Token.{Token}
use Rattle.pyc_token.specs.declared.lexeme.Lexeme.{Lexeme}
use Rattle.pyc_token.specs.declared.lexeme.Lexeme.TheVariants as lexeme
use Rattle.pyc_token.specs.declared.lexeme.CutFault.{CutFault}
use Rattle.pyc_token.specs.Cuts.{Cut, found, cut_first_lexeme, cut_off, left_of, cuts, cuts_up_to}
use Rattle.pyc_lex.specs.Ignores.{Codes, suppressed}
use Rattle.pyc_lex.specs.Indents.{columns_after}
use Rattle.pyc_lex.specs.Lines.{Line, Reading, Lexis, start_at, is_empty, and_then, step, read, fault_met, line_settled, token_at, with_line, line_ended, measured, with_ignore, end_met, front_joined, innermost, lexis_read, finished, mark_len, lexemes_of}
use Rattle.pyc_token.specs.Names.{kind_of_name}
use Rattle.pyc_lex.specs.Texts.{tokens_of, slice_at, IsTextSpan, with_token_text, texts_among, token_texts}
use Rattle.pyc_lex.proofs.MarkLemmas.{mark_boundary}
use Rattle.pyc_token.proofs.CutLemmas.{HasLexeme, cut_takes}
use Rattle.pyc_lex.proofs.ReadLemmas.{and_then-ok, IsPushed, Follows, step-follows, from-step}

-- ---- the tokens that a lexeme adds

tokens_of-append : (lines more : List Line) → tokens_of (lines ++ more) ≡ tokens_of lines ++ tokens_of more
tokens_of-append [] more = refl
tokens_of-append (line ∷ lines) more = ap (λ (ts : List Token). line.tokens ++ ts) (tokens_of-append lines more) ∙ sym (append_assoc line.tokens (tokens_of lines) (tokens_of more))

pub tokens_of-with_line : (lines : List Line) (indent : ℕ) (begun : List Token) → tokens_of (with_line lines indent begun) ≡ tokens_of lines ++ begun
tokens_of-with_line lines indent [] = sym (append-nil (tokens_of lines))
tokens_of-with_line lines indent (token ∷ tokens) =
    tokens_of-append lines (record { indent = indent; tokens = token ∷ tokens } ∷ []) ∙ ap (λ (ts : List Token). tokens_of lines ++ ts) (append-nil (token ∷ tokens))

-- all tokens that were read
abbrev pub read_tokens : Reading → List Token
read_tokens r = tokens_of r.lexis.lines ++ r.begun

abbrev new_tokens : Reading → Lexeme → List ℕ → List Token
new_tokens r lexeme.Name text = token_at r (kind_of_name text) text ∷ []
new_tokens r (lexeme.Token kind) text = token_at r kind text ∷ []
new_tokens r _ text = []

-- a change that adds no token
same_tokens : (r next : Reading) → read_tokens next ≡ read_tokens r → read_tokens next ≡ read_tokens r ++ []
same_tokens r next e = e ∙ sym (append-nil (read_tokens r))

pub tokens-pushed : (r next : Reading) (kind : Kind) (text : List ℕ) → IsPushed r next kind text → read_tokens next ≡ read_tokens r ++ token_at r kind text ∷ []
tokens-pushed r next kind text f = ap read_tokens f.is ∙ sym (append_assoc (tokens_of r.lexis.lines) r.begun (token_at r kind text ∷ []))

tokens-measured : (r : Reading) (text : List ℕ) → read_tokens (measured r text) ≡ read_tokens r
tokens-measured r text = elim r.is_measuring as (λ b. read_tokens (if b then record r { margin = columns_after r.margin text } else r) ≡ read_tokens r) [ true ↦ refl | false ↦ refl ]

tokens-ignored : (r : Reading) (codes : Option Codes) → read_tokens (with_ignore r codes) ≡ read_tokens r
tokens-ignored r None = refl
tokens-ignored r (Some codes) = refl

pub tokens-line_ended : (r : Reading) → read_tokens (line_ended r) ≡ read_tokens r
tokens-line_ended r = append-nil (tokens_of (line_ended r).lexis.lines) ∙ tokens_of-with_line r.lexis.lines (length r.indents - 1) r.begun

tokens-end_met : (r : Reading) → read_tokens (end_met r) ≡ read_tokens r
tokens-end_met r = elim (is_empty r.brackets) as (λ b. read_tokens (if b then line_ended r else r) ≡ read_tokens r) [ true ↦ tokens-line_ended r | false ↦ refl ]

tokens-front_joined : (r : Reading) → read_tokens (front_joined r) ≡ read_tokens r
tokens-front_joined r = elim (r.margin.wide == 0) as (λ b. read_tokens (if b then r else record r { is_measuring = false }) ≡ read_tokens r) [ true ↦ refl | false ↦ refl ]

tokens-follows : (r : Reading) (p : Lexeme) (text : List ℕ) (next : Reading) → Follows r p text next → read_tokens next ≡ read_tokens r ++ new_tokens r p text
tokens-follows r lexeme.Name text next f = tokens-pushed r next (kind_of_name text) text f
tokens-follows r (lexeme.Token kind) text next f = tokens-pushed r next kind text f
tokens-follows r lexeme.Blank text next f = same_tokens r next (ap read_tokens f ∙ tokens-measured r text)
tokens-follows r lexeme.Comment text next f = same_tokens r next (ap read_tokens f ∙ tokens-ignored r (suppressed r.from text))
tokens-follows r lexeme.LineEnd text next f = same_tokens r next (ap read_tokens f ∙ tokens-end_met r)
tokens-follows r lexeme.Joined text next f = same_tokens r next (ap read_tokens f ∙ tokens-front_joined r)

-- ---- a token's slice

-- these bytes of a source stand at a position
pub record StandsAt (source : List ℕ) (from : ℕ) (text : List ℕ) : Type 0 where
  pub front : List ℕ
  pub rest : List ℕ
  pub parts : source ≡ front ++ (text ++ rest)
  pub position : length front ≡ from
  pub utf8 : IsUtf8 text
  pub some : 0 < length text

pub slice_from_place : (source text : List ℕ) (from : ℕ) → StandsAt source from text → take (from + length text - from) (drop from source) ≡ text
slice_from_place source text from at =
    let count : from + length text - from ≡ length text = omega arith in
    let dropped : drop from source ≡ text ++ at.rest = ap (drop from) at.parts ∙ drop_at at.front (text ++ at.rest) from at.position in
    ap (λ (n : ℕ). take n (drop from source)) count ∙ ap (take (length text)) dropped ∙ take_at text at.rest (length text) refl

pub end_from_place : (source text : List ℕ) (from : ℕ) → StandsAt source from text → from + length text ≤ length source
end_from_place source text from at =
    omega (arith, ap length at.parts, length-append at.front (text ++ at.rest), length-append text at.rest, at.position)

-- a token of a source
abbrev pub IsText : List ℕ → Token → Type 0
IsText source token = IsTextSpan source token.span

span_from_place : (source : List ℕ) (r : Reading) (kind : Kind) (text : List ℕ) → StandsAt source r.from text → IsText source (token_at r kind text)
span_from_place source r kind text at = record {
  not_empty = omega (arith, at.some);
  within = end_from_place source text r.from at;
  is_utf8 = subst IsUtf8 (sym (slice_from_place source text r.from at)) at.utf8;
}

new_texts : (source : List ℕ) (r : Reading) (p : Lexeme) (text : List ℕ) (later : List (List ℕ)) → StandsAt source r.from text
    → map (slice_at source) (new_tokens r p text) ++ later ≡ with_token_text p text later
new_texts source r lexeme.Name text later at = ap (λ (t : List ℕ). t ∷ later) (slice_from_place source text r.from at)
new_texts source r (lexeme.Token kind) text later at = ap (λ (t : List ℕ). t ∷ later) (slice_from_place source text r.from at)
new_texts source r lexeme.Blank text later at = refl
new_texts source r lexeme.Comment text later at = refl
new_texts source r lexeme.LineEnd text later at = refl
new_texts source r lexeme.Joined text later at = refl

one_span : (source : List ℕ) (r : Reading) (kind : Kind) (text : List ℕ) → StandsAt source r.from text → All (IsText source) (token_at r kind text ∷ [])
one_span source r kind text at = All-cons (IsText source) (token_at r kind text) [] (span_from_place source r kind text at) (All-nil (IsText source))

new_spans : (source : List ℕ) (r : Reading) (p : Lexeme) (text : List ℕ) → StandsAt source r.from text → All (IsText source) (new_tokens r p text)
new_spans source r lexeme.Name text at = one_span source r (kind_of_name text) text at
new_spans source r (lexeme.Token kind) text at = one_span source r kind text at
new_spans source r lexeme.Blank text at = All-nil (IsText source)
new_spans source r lexeme.Comment text at = All-nil (IsText source)
new_spans source r lexeme.LineEnd text at = All-nil (IsText source)
new_spans source r lexeme.Joined text at = All-nil (IsText source)

-- ---- all lexemes

-- what is known of the tokens once a text is read, which later lexemes follow
record AreSlices (source : List ℕ) (r out : Reading) (later : List Cut) : Type 0 where
  texts : map (slice_at source) (read_tokens out) ≡ map (slice_at source) (read_tokens r) ++ texts_among later
  spans : All (IsText source) (read_tokens out)

slices_at_end : (source : List ℕ) (r out : Reading) → All (IsText source) (read_tokens r) → r ≡ out → AreSlices source r out []
unfolding texts_among
slices_at_end source r out spans e = record {
  texts = ap (λ (s : Reading). map (slice_at source) (read_tokens s)) (sym e) ∙ sym (append-nil (map (slice_at source) (read_tokens r)));
  spans = subst (λ (s : Reading). All (IsText source) (read_tokens s)) e spans;
}

module _ (source : List ℕ) (r next : Reading) (p : Lexeme) (text : List ℕ) (at : StandsAt source r.from text) (stepped : step r p text ≡ Ok next) where
  added : read_tokens next ≡ read_tokens r ++ new_tokens r p text
  added = tokens-follows r p text next (step-follows r p text next stepped)

  slices_before : (out : Reading) (later : List Cut) → AreSlices source next out later → AreSlices source r out (found p text ∷ later)
  unfolding texts_among
  slices_before out later after =
      let s : Token → List ℕ = slice_at source in
      record {
        texts = after.texts
            ∙ ap (λ (ts : List Token). map s ts ++ texts_among later) added
            ∙ ap (λ (xs : List (List ℕ)). xs ++ texts_among later) (map-append s (read_tokens r) (new_tokens r p text))
            ∙ append_assoc (map s (read_tokens r)) (map s (new_tokens r p text)) (texts_among later)
            ∙ ap (λ (xs : List (List ℕ)). map s (read_tokens r) ++ xs) (new_texts source r p text (texts_among later) at);
        spans = after.spans;
      }

  spans_step : All (IsText source) (read_tokens r) → All (IsText source) (read_tokens next)
  spans_step spans =
      subst (λ (ts : List Token). All (IsText source) ts) (sym added)
      (All-append (IsText source) (read_tokens r) (new_tokens r p text) spans (new_spans source r p text at))

-- a text that is cut is its first lexeme and what is left
next_position : (source front text : List ℕ) (len : ℕ) → source ≡ front ++ text → source ≡ (front ++ take len text) ++ drop len text
next_position source front text len e =
    e ∙ ap (λ (z : List ℕ). front ++ z) (sym (take-append-drop len text)) ∙ sym (append_assoc front (take len text) (drop len text))

some_taken : (byte len : ℕ) (text : List ℕ) → 1 ≤ len → 0 < length (take len (byte ∷ text))
some_taken byte zero text l = absurd (omega (arith, l))
some_taken byte (suc len) text l = omega arith

-- a fault ends the reading
pub met_fault : (r out : Reading) (fault : CutFault) → fault_met r fault ≡ Ok out → ⊥
unfolding fault_met
met_fault r out fault e = let got = and_then-ok (line_settled r) _ out e in cc (got.2)

slices_read : (source : List ℕ) (turns : ℕ) (r out : Reading) (front text : List ℕ) → source ≡ front ++ text → length front ≡ r.from → IsUtf8 text
    → All (IsText source) (read_tokens r) → read r (cuts_up_to turns text) ≡ Ok out → AreSlices source r out (cuts_up_to turns text)
unfolding read cuts_up_to
slices_read source zero r out front text parts position utf8 spans e = slices_at_end source r out spans (cc)
slices_read source (suc turns) r out front [] parts position utf8 spans e = slices_at_end source r out spans (cc)
slices_read source (suc turns) r out front (byte ∷ text) parts position utf8 spans e =
    elim (cut_first_lexeme (byte ∷ text)) as (λ f. HasLexeme (byte ∷ text) f → read r (cut_off f (byte ∷ text) ∷ cuts_up_to turns (left_of f (byte ∷ text))) ≡ Ok out
    → AreSlices source r out (cut_off f (byte ∷ text) ∷ cuts_up_to turns (left_of f (byte ∷ text)))) [
      | Ok f ↦ λ lexeme done.
          let taken : List ℕ = take f.1 (byte ∷ text) in
          let left : List ℕ = drop f.1 (byte ∷ text) in
          let at : StandsAt source r.from taken = record {
            front = front;
            rest = left;
            parts = parts ∙ ap (λ (z : List ℕ). front ++ z) (sym (take-append-drop f.1 (byte ∷ text)));
            position = position;
            utf8 = IsUtf8-take (byte ∷ text) f.1 utf8 lexeme.boundary;
            some = some_taken byte f.1 text lexeme.least;
          } in
          let got = and_then-ok (step r f.0 taken) (λ next. read next (cuts_up_to turns left)) out done in
          let moved : length (front ++ taken) ≡ got.0.from = omega (arith, length-append front taken, position, from-step r f.0 taken got.0 got.1) in
          slices_before source r got.0 f.0 taken at got.1 out (cuts_up_to turns left)
          (slices_read source turns got.0 out (front ++ taken) left (next_position source front (byte ∷ text) f.1 parts) moved (IsUtf8-drop (byte ∷ text) f.1 utf8 lexeme.boundary)
          (spans_step source r got.0 f.0 taken at got.1 spans) got.2)
      | Err fault ↦ λ lexeme done. absurd (met_fault r out fault done)
    ] (cut_takes (byte ∷ text) utf8 (omega arith)).lexeme e

-- ---- whole sources

pub record AreTokens (source : List ℕ) (lines : List Line) : Type 0 where
  pub texts : map (slice_at source) (tokens_of lines) ≡ token_texts source
  pub spans : All (IsText source) (tokens_of lines)

tokens_read : (source : List ℕ) (out : Reading) → IsUtf8 source → read (start_at (mark_len source)) (lexemes_of source) ≡ Ok out → AreTokens source (line_ended out).lexis.lines
unfolding lexemes_of cuts token_texts
tokens_read source out utf8 e =
    let m : ℕ = mark_len source in
    let boundary = mark_boundary source utf8 in
    let placed : length (take m source) ≡ m = omega (arith, length-take m source, boundary.0) in
    let so : AreSlices source (start_at m) out (lexemes_of source) =
    slices_read source (length (drop m source)) (start_at m) out (take m source) (drop m source) (sym (take-append-drop m source)) placed (IsUtf8-drop source m utf8 boundary) (All-nil (IsText source)) e in
    let same : tokens_of (line_ended out).lexis.lines ≡ read_tokens out = tokens_of-with_line out.lexis.lines (length out.indents - 1) out.begun in
    record {
      texts = ap (map (slice_at source)) same ∙ so.texts;
      spans = subst (λ (ts : List Token). All (IsText source) ts) (sym same) so.spans;
    }

pub finished_lexis : (r : Reading) (lexis : Lexis) → finished r ≡ Ok lexis → (line_ended r).lexis ≡ lexis
unfolding finished
finished_lexis r lexis e =
    elim (innermost r.brackets) as (λ o. lexis_read o r ≡ Ok lexis → (line_ended r).lexis ≡ lexis) [
      | None ↦ λ e. cc
      | Some last ↦ λ e. cc
    ] e

pub tokens_of_lexis : (source : List ℕ) (lexis : Lexis) → IsUtf8 source → and_then (read (start_at (mark_len source)) (lexemes_of source)) finished ≡ Ok lexis → AreTokens source lexis.lines
tokens_of_lexis source lexis utf8 e =
    let got = and_then-ok (read (start_at (mark_len source)) (lexemes_of source)) finished lexis e in
    subst (λ (x : Lexis). AreTokens source x.lines) (finished_lexis got.0 lexis got.2) (tokens_read source got.0 utf8 got.1)
