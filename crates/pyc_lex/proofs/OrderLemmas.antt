-- Tokens are in text order, and lines stay within the limits.
use Rattle.std.proofs.Common.{◌≡◌, ◌≤◌, ◌+◌, ◌-◌, ◌==◌, ℕ, true, false, if◌then◌else◌, List, [], ◌∷◌, ◌++◌, length, Option, Some, None, Ok, refl, sym, ap, subst, ◌∙◌, arith}
use Rattle.std.proofs.lemmas.List.Elements.{All-nil, All-cons, All-append}
use Rattle.std.proofs.lemmas.List.Quantifiers.{all_pairs_push}
use Rattle.std.specs.List.{All, AllPairs}
use Rattle.pyc_token.specs.declared.tokens.Kind.{Kind}
use Rattle.pyc_token.specs.declared.tokens.Token.{Token}
use Rattle.pyc_token.specs.declared.lexeme.Lexeme.{Lexeme}
use Rattle.pyc_token.specs.declared.lexeme.Lexeme.TheVariants as lexeme
use Rattle.pyc_token.specs.Cuts.{Cut, found, bad}
use Rattle.pyc_lex.specs.Ignores.{Codes, suppressed}
use Rattle.pyc_lex.specs.Indents.{columns_after}
use Rattle.pyc_lex.specs.Limits.{IsBefore, depth_past, depth_after, NestsWithin, IsWithinLimits}
use Rattle.pyc_lex.specs.Lines.{Line, Lexis, Reading, start_at, is_empty, moved, measured, with_ignore, end_met, line_ended, front_joined, token_at, with_line, step, read, and_then, finished, mark_len, lexemes_of}
use Rattle.pyc_token.specs.Names.{kind_of_name}
use Rattle.pyc_lex.specs.Texts.{tokens_of}
use Rattle.pyc_lex.proofs.ReadLemmas.{and_then-ok, IsPushed, Follows, step-follows}
use Rattle.pyc_lex.proofs.StackLemmas.{IsStepped, bracketed-length}
use Rattle.pyc_lex.proofs.TextLemmas.{read_tokens, tokens_of-with_line, tokens-pushed, tokens-line_ended, finished_lexis, met_fault}

-- ---- brackets of a line

depth_after-push : (depth : ℕ) (tokens : List Token) (token : Token) → depth_after depth (tokens ++ token ∷ []) ≡ depth_past (depth_after depth tokens) token.kind
depth_after-push depth [] token = refl
depth_after-push depth (first ∷ tokens) token = depth_after-push (depth_past depth first.kind) tokens token

NestsWithin-push : (depth : ℕ) (tokens : List Token) (token : Token) → NestsWithin depth tokens → depth_past (depth_after depth tokens) token.kind ≤ 64
    → NestsWithin depth (tokens ++ token ∷ [])
NestsWithin-push depth [] token nests low = (low, tt)
NestsWithin-push depth (first ∷ tokens) token nests low = (nests.0, NestsWithin-push (depth_past depth first.kind) tokens token nests.1 low)

limits-with_line : (lines : List Line) (indent : ℕ) (begun : List Token) → All IsWithinLimits lines → indent ≤ 64 → NestsWithin 0 begun
    → All IsWithinLimits (with_line lines indent begun)
limits-with_line lines indent [] all low nests = all
limits-with_line lines indent (token ∷ tokens) all low nests =
    let line : Line = record { indent = indent; tokens = token ∷ tokens } in
    All-append IsWithinLimits lines (line ∷ []) all (All-cons IsWithinLimits line [] (record { indent = low; brackets = nests }) (All-nil IsWithinLimits))

-- ---- what holds between two lexemes

record IsOrderly (r : Reading) : Type 0 where
  stack : length r.indents ≤ 65
  lines : All IsWithinLimits r.lexis.lines
  order : AllPairs IsBefore (read_tokens r)
  before : All (λ token. token.span.end ≤ r.from) (read_tokens r)
  nests : NestsWithin 0 r.begun
  depth : depth_after 0 r.begun ≡ length r.brackets
  brackets : length r.brackets ≤ 64

-- a position further on is after the same tokens
later : (tokens : List Token) (from next : ℕ) → from ≤ next → All (λ token. token.span.end ≤ from) tokens → All (λ token. token.span.end ≤ next) tokens
later tokens from next l all = λ k d within. omega (arith, l, all k d within)

orderly-moved : (r : Reading) (text : List ℕ) → IsOrderly r → IsOrderly (moved r text)
orderly-moved r text orderly = record {
  stack = orderly.stack;
  lines = orderly.lines;
  order = orderly.order;
  before = later (read_tokens r) r.from (r.from + length text) (omega arith) orderly.before;
  nests = orderly.nests;
  depth = orderly.depth;
  brackets = orderly.brackets;
}

orderly-pushed : (r next : Reading) (kind : Kind) (text : List ℕ) → IsPushed r next kind text → IsOrderly r → IsOrderly next
orderly-pushed r next kind text f orderly =
    let token : Token = token_at r kind text in
    let tokens : List Token = read_tokens r in
    let added : read_tokens next ≡ tokens ++ token ∷ [] = tokens-pushed r next kind text f in
    let from : next.from ≡ r.from + length text = ap (λ (s : Reading). s.from) f.is in
    let stepped : IsStepped (length r.brackets) (length f.brackets) kind = bracketed-length r.brackets f.brackets kind r.position.line f.met orderly.brackets in
    let same : next.brackets ≡ f.brackets = ap (λ (s : Reading). s.brackets) f.is in
    let begun : next.begun ≡ r.begun ++ token ∷ [] = ap (λ (s : Reading). s.begun) f.is in
    let deeper : depth_past (depth_after 0 r.begun) kind ≡ length f.brackets = ap (λ (n : ℕ). depth_past n kind) orderly.depth ∙ stepped.depth in
    let all : All (λ token. token.span.end ≤ r.from + length text) (tokens ++ token ∷ []) =
    All-append (λ token. token.span.end ≤ r.from + length text) tokens (token ∷ []) (later tokens r.from (r.from + length text) (omega arith) orderly.before)
    (All-cons (λ token. token.span.end ≤ r.from + length text) token [] (omega arith) (All-nil (λ token. token.span.end ≤ r.from + length text))) in
    record {
      stack = omega (arith, ap (λ (s : Reading). length s.indents) f.is, f.low orderly.stack);
      lines = subst (All IsWithinLimits) (ap (λ (s : Reading). s.lexis.lines) (sym f.is)) orderly.lines;
      order = subst (AllPairs IsBefore) (sym added) (all_pairs_push IsBefore tokens token orderly.order orderly.before);
      before = subst (λ (ts : List Token). All (λ token. token.span.end ≤ next.from) ts) (sym added) (later (tokens ++ token ∷ []) (r.from + length text) next.from (omega (arith, from)) all);
      nests = subst (NestsWithin 0) (sym begun) (NestsWithin-push 0 r.begun token orderly.nests (omega (arith, deeper, stepped.low)));
      depth = ap (depth_after 0) begun ∙ depth_after-push 0 r.begun token ∙ deeper ∙ ap length (sym same);
      brackets = omega (arith, ap length same, stepped.low);
    }

orderly-measured : (r : Reading) (text : List ℕ) → IsOrderly r → IsOrderly (measured r text)
orderly-measured r text orderly =
    elim r.is_measuring as (λ b. IsOrderly (if b then record r { margin = columns_after r.margin text } else r)) [
      | true ↦ record { stack = orderly.stack; lines = orderly.lines; order = orderly.order; before = orderly.before; nests = orderly.nests; depth = orderly.depth; brackets = orderly.brackets }
      | false ↦ orderly
    ]

orderly-ignored : (r : Reading) (codes : Option Codes) → IsOrderly r → IsOrderly (with_ignore r codes)
orderly-ignored r None orderly = orderly
orderly-ignored r (Some codes) orderly =
    record { stack = orderly.stack; lines = orderly.lines; order = orderly.order; before = orderly.before; nests = orderly.nests; depth = orderly.depth; brackets = orderly.brackets }

orderly-front_joined : (r : Reading) → IsOrderly r → IsOrderly (front_joined r)
orderly-front_joined r orderly =
    elim (r.margin.wide == 0) as (λ b. IsOrderly (if b then r else record r { is_measuring = false })) [
      | true ↦ orderly
      | false ↦ record { stack = orderly.stack; lines = orderly.lines; order = orderly.order; before = orderly.before; nests = orderly.nests; depth = orderly.depth; brackets = orderly.brackets }
    ]

none_in : {A : Type 0} (xs : List A) → is_empty xs ≡ true → length xs ≡ 0
none_in [] e = refl
none_in (x ∷ xs) e = cc

lines-line_ended : (r : Reading) → IsOrderly r → All IsWithinLimits (line_ended r).lexis.lines
lines-line_ended r orderly = limits-with_line r.lexis.lines (length r.indents - 1) r.begun orderly.lines (omega (arith, orderly.stack)) orderly.nests

orderly-line_ended : (r : Reading) → is_empty r.brackets ≡ true → IsOrderly r → IsOrderly (line_ended r)
orderly-line_ended r none orderly = record {
  stack = orderly.stack;
  lines = lines-line_ended r orderly;
  order = subst (AllPairs IsBefore) (sym (tokens-line_ended r)) orderly.order;
  before = subst (λ (ts : List Token). All (λ token. token.span.end ≤ r.from) ts) (sym (tokens-line_ended r)) orderly.before;
  nests = tt;
  depth = sym (none_in r.brackets none);
  brackets = orderly.brackets;
}

orderly-end_met : (r : Reading) → IsOrderly r → IsOrderly (end_met r)
orderly-end_met r orderly =
    elim (is_empty r.brackets) as (λ b. is_empty r.brackets ≡ b → IsOrderly (if b then line_ended r else r)) [
      | true ↦ λ none. orderly-line_ended r none orderly
      | false ↦ λ some. orderly
    ] refl

orderly-follows : (r : Reading) (p : Lexeme) (text : List ℕ) (next : Reading) → Follows r p text next → IsOrderly r → IsOrderly next
orderly-follows r lexeme.Name text next f orderly = orderly-pushed r next (kind_of_name text) text f orderly
orderly-follows r (lexeme.Token kind) text next f orderly = orderly-pushed r next kind text f orderly
orderly-follows r lexeme.Blank text next f orderly = subst IsOrderly (sym f) (orderly-moved (measured r text) text (orderly-measured r text orderly))
orderly-follows r lexeme.Comment text next f orderly =
    subst IsOrderly (sym f) (orderly-moved (with_ignore r (suppressed r.from text)) text (orderly-ignored r (suppressed r.from text) orderly))
orderly-follows r lexeme.LineEnd text next f orderly = subst IsOrderly (sym f) (orderly-moved (end_met r) text (orderly-end_met r orderly))
orderly-follows r lexeme.Joined text next f orderly = subst IsOrderly (sym f) (orderly-moved (front_joined r) text (orderly-front_joined r orderly))

orderly-read : (r out : Reading) (lexemes : List Cut) → IsOrderly r → read r lexemes ≡ Ok out → IsOrderly out
unfolding read
orderly-read r out [] orderly e = let is : r ≡ out = cc in subst IsOrderly is orderly
orderly-read r out (bad fault ∷ lexemes) orderly e = absurd (met_fault r out fault e)
orderly-read r out (found p text ∷ lexemes) orderly e =
    let got = and_then-ok (step r p text) (λ next. read next lexemes) out e in
    orderly-read got.0 out lexemes (orderly-follows r p text got.0 (step-follows r p text got.0 got.1) orderly) got.2

orderly-start : (from : ℕ) → IsOrderly (start_at from)
orderly-start from = record {
  stack = omega arith;
  lines = All-nil IsWithinLimits;
  order = λ i j d a b. absurd (omega (arith, b));
  before = All-nil (λ token. token.span.end ≤ from);
  nests = tt;
  depth = refl;
  brackets = omega arith;
}

-- ---- whole sources

pub record AreOrderly (lines : List Line) : Type 0 where
  pub order : AllPairs IsBefore (tokens_of lines)
  pub limits : All IsWithinLimits lines

pub lexis_orderly : (source : List ℕ) (lexis : Lexis) → and_then (read (start_at (mark_len source)) (lexemes_of source)) finished ≡ Ok lexis → AreOrderly lexis.lines
lexis_orderly source lexis e =
    let got = and_then-ok (read (start_at (mark_len source)) (lexemes_of source)) finished lexis e in
    let orderly : IsOrderly got.0 = orderly-read (start_at (mark_len source)) got.0 (lexemes_of source) (orderly-start (mark_len source)) got.1 in
    let same : tokens_of (line_ended got.0).lexis.lines ≡ read_tokens got.0 = tokens_of-with_line got.0.lexis.lines (length got.0.indents - 1) got.0.begun in
    subst (λ (x : Lexis). AreOrderly x.lines) (finished_lexis got.0 lexis got.2)
    (record { order = subst (AllPairs IsBefore) (sym same) orderly.order; limits = lines-line_ended got.0 orderly })
