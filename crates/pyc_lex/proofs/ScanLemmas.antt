-- What a scan answers, from what the reading of its lexemes answers.
use Rattle.std.proofs.Common.{◌≡◌, ◌≢◌, if◌then◌else◌, ℕ, true, false, List, [], ◌∷◌, ◌++◌, length, take, map, drop, IfOk, IfErr, IsUtf8, Result, Ok, Err, refl, sym, ◌∙◌}
use Rattle.std.proofs.lemmas.Str.{is_utf8-from_IsUtf8, IsUtf8-from_is_utf8}
use Rattle.std.proofs.lemmas.List.{take_at, drop_at}
use Rattle.std.proofs.lemmas.List.Elements.{All-nil, All-cons, All-same, All-take, All-drop}
use Rattle.std.specs.List.{All, AllPairs}
use Rattle.std.specs.Str.{is_utf8}
use Rattle.pyc_token.specs.declared.tokens.Token.{Token}
use Rattle.pyc_lex.specs.declared.logical_lines.LogicalLine.{LogicalLine}
use Rattle.pyc_lex.specs.declared.logical_lines.Scan.{Scan}
use Rattle.pyc_lex.specs.declared.fault.LexFault.{LexFault}
use Rattle.pyc_lex.specs.declared.fault.LexFault.TheVariants.{NotUtf8, Memory}
use Rattle.pyc_token.specs.Cuts.{cuts}
use Rattle.pyc_lex.specs.Lines.{Lexis, start_at, and_then, read, finished, mark_len, lexemes_of, lines_of}
use Rattle.pyc_lex.specs.Texts.{tokens_of, slice_at, IsTextSpan, listed_spans, token_texts}
use Rattle.pyc_lex.specs.View.{line_in, lexis_in, AnswersScan}
use Rattle.pyc_lex.specs.Limits.{IsBefore, IsWithinLimits}
use Rattle.pyc_lex.proofs.IgnoreSpans.{codes_of_lexis}
use Rattle.pyc_lex.proofs.OrderLemmas.{AreOrderly, lexis_orderly}
use Rattle.pyc_lex.proofs.TextLemmas.{IsText, tokens_of_lexis}

-- a source that is not UTF-8 has that fault
pub lines_of-no_utf8 : (source : List ℕ) → ¬ (IsUtf8 source) → lines_of source ≡ Err NotUtf8
unfolding lines_of
lines_of-no_utf8 source other =
    elim (is_utf8 source) as (λ b. is_utf8 source ≡ b → (if b then and_then (read (start_at (mark_len source)) (lexemes_of source)) finished else Err NotUtf8) ≡ Err NotUtf8) [
      | true ↦ λ e. absurd (other (IsUtf8-from_is_utf8 source e))
      | false ↦ λ e. refl
    ] refl

pub lines_of-utf8 : (source : List ℕ) → IsUtf8 source → lines_of source ≡ and_then (read (start_at (mark_len source)) (lexemes_of source)) finished
unfolding lines_of
lines_of-utf8 source utf8 = rw (is_utf8-from_IsUtf8 source utf8) refl

pub lines_of-text : (source : List ℕ) (from : ℕ) (text : List ℕ) → IsUtf8 source → from ≡ mark_len source → text ≡ drop from source
    → lines_of source ≡ and_then (read (start_at from) (cuts text)) finished
unfolding lexemes_of
lines_of-text source from text utf8 f t = lines_of-utf8 source utf8 ∙ rw (t, f) refl

pub lines_answer : (source : List ℕ) (expected : Result Lexis LexFault) (r : Result Scan LexFault) → lines_of source ≡ expected → AnswersScan expected r
    → IfOk r (λ scan. lines_of source ≡ Ok (lexis_in scan))
lines_answer source expected (Ok scan) e h = e ∙ h
lines_answer source expected (Err fault) e h = tt

pub fault_answer : (source : List ℕ) (expected : Result Lexis LexFault) (r : Result Scan LexFault) → lines_of source ≡ expected → AnswersScan expected r
    → IfErr r (λ fault. fault ≢ Memory → lines_of source ≡ Err fault)
fault_answer source expected (Ok scan) e h = tt
fault_answer source expected (Err fault) e h = λ other. e ∙ h other

pub texts_answer : (source : List ℕ) → IsUtf8 source → (r : Result Scan LexFault) → IfOk r (λ scan. lines_of source ≡ Ok (lexis_in scan))
    → IfOk r (λ scan. map (slice_at source) (tokens_of (lexis_in scan).lines) ≡ token_texts source)
texts_answer source utf8 (Ok scan) e = (tokens_of_lexis source (lexis_in scan) utf8 (sym (lines_of-utf8 source utf8) ∙ e)).texts
texts_answer source utf8 (Err fault) e = tt

-- what holds of all tokens holds of the tokens of each line
each_line : (P : Token → Type 0) (lines : List LogicalLine) → All P (tokens_of (map line_in lines)) → All (λ line. All P line.tokens.items) lines
each_line P [] all = All-nil (λ line. All P line.tokens.items)
each_line P (line ∷ lines) all =
    let first : List Token = line.tokens.items in
    let later : List Token = tokens_of (map line_in lines) in
    All-cons (λ line. All P line.tokens.items) line lines
    (All-same P first (take (length first) (first ++ later)) (sym (take_at first later (length first) refl)) (All-take P (length first) (first ++ later) all))
    (each_line P lines (All-same P later (drop (length first) (first ++ later)) (sym (drop_at first later (length first) refl)) (All-drop P (length first) (first ++ later) all)))

pub spans_answer : (source : List ℕ) → IsUtf8 source → (r : Result Scan LexFault) → IfOk r (λ scan. lines_of source ≡ Ok (lexis_in scan))
    → IfOk r (λ scan. All (λ line. All (λ token. IsTextSpan source token.span) line.tokens.items) scan.lines.items)
spans_answer source utf8 (Ok scan) e =
    each_line (IsText source) scan.lines.items (tokens_of_lexis source (lexis_in scan) utf8 (sym (lines_of-utf8 source utf8) ∙ e)).spans
spans_answer source utf8 (Err fault) e = tt

pub codes_answer : (source : List ℕ) → IsUtf8 source → (r : Result Scan LexFault) → IfOk r (λ scan. lines_of source ≡ Ok (lexis_in scan))
    → IfOk r (λ scan. All (λ ignore. All (IsTextSpan source) (listed_spans ignore.codes)) (lexis_in scan).ignores)
codes_answer source utf8 (Ok scan) e = codes_of_lexis source (lexis_in scan) utf8 (sym (lines_of-utf8 source utf8) ∙ e)
codes_answer source utf8 (Err fault) e = tt

-- the order of a source's tokens, and the limits of its lines
orderly_lexis : (source : List ℕ) → IsUtf8 source → (scan : Scan) → lines_of source ≡ Ok (lexis_in scan) → AreOrderly (lexis_in scan).lines
orderly_lexis source utf8 scan e = lexis_orderly source (lexis_in scan) (sym (lines_of-utf8 source utf8) ∙ e)

pub order_answer : (source : List ℕ) → IsUtf8 source → (r : Result Scan LexFault) → IfOk r (λ scan. lines_of source ≡ Ok (lexis_in scan))
    → IfOk r (λ scan. AllPairs IsBefore (tokens_of (lexis_in scan).lines))
order_answer source utf8 (Ok scan) e = (orderly_lexis source utf8 scan e).order
order_answer source utf8 (Err fault) e = tt

pub limits_answer : (source : List ℕ) → IsUtf8 source → (r : Result Scan LexFault) → IfOk r (λ scan. lines_of source ≡ Ok (lexis_in scan))
    → IfOk r (λ scan. All IsWithinLimits (lexis_in scan).lines)
limits_answer source utf8 (Ok scan) e = (orderly_lexis source utf8 scan e).limits
limits_answer source utf8 (Err fault) e = tt
