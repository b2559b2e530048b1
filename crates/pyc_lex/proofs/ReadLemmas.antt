-- One lexeme after another.
use Rattle.std.proofs.Common.{◌≡◌, ◌≢◌, IsErrAnd, ◌≤◌, ◌<◌, ◌+◌, ℕ, zero, suc, true, false, if◌then◌else◌, ◌==◌, List, [], ◌∷◌, length, take, drop, IsUtf8, Option, Some, None, Result, Ok, Err, refl, sym, ap, subst, ◌∙◌, arith, length-take, length-drop}
use Rattle.std.proofs.lemmas.Str.{IsUtf8-drop}
use Rattle.pyc_token.proofs.CutLemmas.{IsLexeme, cut_lexeme}
use Rattle.pyc_lex.proofs.StackLemmas.{settled-length}
use Rattle.pyc_lex.specs.declared.brackets.Opened.{Opened}
use Rattle.pyc_lex.specs.declared.indents.Columns.{Columns}
use Rattle.pyc_token.specs.declared.tokens.Kind.{Kind}
use Rattle.pyc_token.specs.declared.lexeme.Lexeme.{Lexeme}
use Rattle.pyc_token.specs.declared.lexeme.Lexeme.TheVariants as lexeme
use Rattle.pyc_token.specs.declared.lexeme.CutFault.{CutFault}
use Rattle.pyc_lex.specs.declared.fault.LexFault.{LexFault}
use Rattle.pyc_token.specs.Cuts.{FirstLexeme, cut_first_lexeme, cut_off, left_of, cuts_up_to, cuts}
use Rattle.pyc_lex.specs.Ignores.{Codes, suppressed}
use Rattle.pyc_lex.specs.Indents.{columns_after, settled}
use Rattle.pyc_lex.specs.Lines.{Reading, Lexis, start_at, is_empty, and_then, moved, line_settled, measured, front_joined, bracketed, pushed, with_token, end_met, line_ended, with_ignore, step, fault_met, read}
use Rattle.pyc_lex.specs.View.{AnswersScan}
use Rattle.pyc_lex.specs.declared.logical_lines.Scan.{Scan}
use Rattle.pyc_lex.specs.declared.fault.LexFault.TheVariants.{Memory}
use Rattle.pyc_token.specs.Names.{kind_of_name}

-- ---- what one lexeme changes

-- what a step went through
pub and_then-ok : {A B : Type 0} (x : Result A LexFault) (f : A → Result B LexFault) (y : B) → and_then x f ≡ Ok y → (a : A) × (x ≡ Ok a) × (f a ≡ Ok y)
and_then-ok (Ok a) f y e = (a, refl, e)
and_then-ok (Err stopped) f y e = cc

-- a token was added at the position of a reading, whose indents were settled
pub record IsPushed (r next : Reading) (kind : Kind) (text : List ℕ) : Type 0 where
  pub stack : List Columns
  pub brackets : List Opened
  pub is : next ≡ pushed (record r { indents = stack }) kind text brackets
  pub low : length r.indents ≤ 65 → length stack ≤ 65
  pub met : bracketed r.brackets kind r.position.line ≡ Ok brackets

settled_stack : (r s : Reading) → line_settled r ≡ Ok s → (stack : List Columns) × (s ≡ record r { indents = stack }) × (length r.indents ≤ 65 → length stack ≤ 65)
settled_stack r s e =
    elim (is_empty r.begun) as (λ b. (if b then and_then (settled r.indents r.margin r.position.line) (λ stack. Ok (record r { indents = stack })) else Ok r) ≡ Ok s
    → (stack : List Columns) × (s ≡ record r { indents = stack }) × (length r.indents ≤ 65 → length stack ≤ 65)) [
      | true ↦ λ e. let got = and_then-ok (settled r.indents r.margin r.position.line) (λ stack. Ok (record r { indents = stack })) s e in (got.0, cc (got.2), settled-length r.indents got.0 r.margin r.position.line got.1)
      | false ↦ λ e. (r.indents, cc, λ low. low)
    ] e

with_token-pushed : (r next : Reading) (kind : Kind) (text : List ℕ) → with_token r kind text ≡ Ok next → IsPushed r next kind text
with_token-pushed r next kind text e =
    let first = and_then-ok (line_settled r) (λ s. and_then (bracketed s.brackets kind s.position.line) (λ brackets. Ok (pushed s kind text brackets))) next e in
    let second = and_then-ok (bracketed first.0.brackets kind first.0.position.line) (λ brackets. Ok (pushed first.0 kind text brackets)) next first.2 in
    let stack = settled_stack r first.0 first.1 in
    let done : next ≡ pushed first.0 kind text second.0 = cc (second.2) in
    record {
      stack = stack.0;
      brackets = second.0;
      is = done ∙ ap (λ (s : Reading). pushed s kind text second.0) stack.1;
      low = stack.2;
      met = ap (λ (s : Reading). bracketed s.brackets kind s.position.line) (sym stack.1) ∙ second.1;
    }

-- what a lexeme leads to: a token is added, or the position moves on after another change
abbrev pub Follows : Reading → Lexeme → List ℕ → Reading → Type 0
Follows r lexeme.Name text next = IsPushed r next (kind_of_name text) text
Follows r (lexeme.Token kind) text next = IsPushed r next kind text
Follows r lexeme.Blank text next = next ≡ moved (measured r text) text
Follows r lexeme.Comment text next = next ≡ moved (with_ignore r (suppressed r.from text)) text
Follows r lexeme.LineEnd text next = next ≡ moved (end_met r) text
Follows r lexeme.Joined text next = next ≡ moved (front_joined r) text

pub step-follows : (r : Reading) (p : Lexeme) (text : List ℕ) (next : Reading) → step r p text ≡ Ok next → Follows r p text next
unfolding step
step-follows r lexeme.Name text next e = with_token-pushed r next (kind_of_name text) text e
step-follows r (lexeme.Token kind) text next e = with_token-pushed r next kind text e
step-follows r lexeme.Blank text next e = cc
step-follows r lexeme.Comment text next e = cc
step-follows r lexeme.LineEnd text next e = cc
step-follows r lexeme.Joined text next e = cc

from-measured : (r : Reading) (text : List ℕ) → (measured r text).from ≡ r.from
from-measured r text = elim r.is_measuring as (λ b. (if b then record r { margin = columns_after r.margin text } else r).from ≡ r.from) [ true ↦ refl | false ↦ refl ]

from-ignored : (r : Reading) (codes : Option Codes) → (with_ignore r codes).from ≡ r.from
from-ignored r None = refl
from-ignored r (Some codes) = refl

from-end_met : (r : Reading) → (end_met r).from ≡ r.from
from-end_met r = elim (is_empty r.brackets) as (λ b. (if b then line_ended r else r).from ≡ r.from) [ true ↦ refl | false ↦ refl ]

from-front_joined : (r : Reading) → (front_joined r).from ≡ r.from
from-front_joined r = elim (r.margin.wide == 0) as (λ b. (if b then r else record r { is_measuring = false }).from ≡ r.from) [ true ↦ refl | false ↦ refl ]

from-follows : (r : Reading) (p : Lexeme) (text : List ℕ) (next : Reading) → Follows r p text next → next.from ≡ r.from + length text
from-follows r lexeme.Name text next f = ap (λ (s : Reading). s.from) f.is
from-follows r (lexeme.Token kind) text next f = ap (λ (s : Reading). s.from) f.is
from-follows r lexeme.Blank text next f = ap (λ (s : Reading). s.from) f ∙ ap (λ (n : ℕ). n + length text) (from-measured r text)
from-follows r lexeme.Comment text next f = ap (λ (s : Reading). s.from) f ∙ ap (λ (n : ℕ). n + length text) (from-ignored r (suppressed r.from text))
from-follows r lexeme.LineEnd text next f = ap (λ (s : Reading). s.from) f ∙ ap (λ (n : ℕ). n + length text) (from-end_met r)
from-follows r lexeme.Joined text next f = ap (λ (s : Reading). s.from) f ∙ ap (λ (n : ℕ). n + length text) (from-front_joined r)

pub from-step : (r : Reading) (p : Lexeme) (text : List ℕ) (next : Reading) → step r p text ≡ Ok next → next.from ≡ r.from + length text
from-step r p text next e = from-follows r p text next (step-follows r p text next e)

-- ---- all lexemes

-- a fault that was met is what is reported
pub answers_err : (expected : Result Lexis LexFault) (found : LexFault) (result : Result Scan LexFault) → IsErrAnd result (λ reported. reported ≡ found)
    → (found ≢ Memory → expected ≡ Err found) → AnswersScan expected result
answers_err expected found (Ok scan) is leads = absurd is
answers_err expected found (Err reported) is leads = λ other. leads (λ same. other (is ∙ same)) ∙ ap Err (sym is)

-- what is left of a text is read to what the whole is read to, in the turns that are left
pub record IsOnTheWay (whole : Result Reading LexFault) (end turns : ℕ) (r : Reading) (rest : List ℕ) : Type 0 where
  pub reads : read r (cuts_up_to turns rest) ≡ whole
  pub position : r.from + length rest ≡ end
  pub enough : length rest ≤ turns
  pub utf8 : IsUtf8 rest

pub read_end : (r : Reading) (turns : ℕ) (rest : List ℕ) → length rest ≡ 0 → read r (cuts_up_to turns rest) ≡ Ok r
unfolding read cuts_up_to
read_end r zero rest e = refl
read_end r (suc turns) [] e = refl
read_end r (suc turns) (byte ∷ rest) e = absurd (omega (arith, e))

-- one turn reads what is cut off
read_turn : (r : Reading) (turns : ℕ) (rest : List ℕ) → 0 < length rest
    → read r (cuts_up_to (suc turns) rest) ≡ read r (cut_off (cut_first_lexeme rest) rest ∷ cuts_up_to turns (left_of (cut_first_lexeme rest) rest))
unfolding cuts_up_to
read_turn r turns [] l = absurd (omega (arith, l))
read_turn r turns (byte ∷ rest) l = refl

pub read_bad : (r : Reading) (turns : ℕ) (rest : List ℕ) (fault : CutFault) → 0 < length rest → 0 < turns → cut_first_lexeme rest ≡ Err fault
    → read r (cuts_up_to turns rest) ≡ fault_met r fault
unfolding read
read_bad r zero rest fault l m e = absurd (omega (arith, m))
read_bad r (suc turns) rest fault l m e =
    read_turn r turns rest l ∙ ap (λ (front : FirstLexeme). read r (cut_off front rest ∷ cuts_up_to turns (left_of front rest))) e

pub read_step : (r : Reading) (turns : ℕ) (rest : List ℕ) (p : Lexeme) (len : ℕ) → 0 < length rest → cut_first_lexeme rest ≡ Ok (p, len)
    → read r (cuts_up_to (suc turns) rest) ≡ and_then (step r p (take len rest)) (λ next. read next (cuts_up_to turns (drop len rest)))
unfolding read
read_step r turns rest p len l e =
    read_turn r turns rest l ∙ ap (λ (front : FirstLexeme). read r (cut_off front rest ∷ cuts_up_to turns (left_of front rest))) e

pub on_the_way-start : (r : Reading) (from : ℕ) (text : List ℕ) (turns : ℕ) → r ≡ start_at from → turns ≡ length text → IsUtf8 text
    → IsOnTheWay (read (start_at from) (cuts text)) (from + length text) turns r text
unfolding cuts
on_the_way-start r from text turns e n u = record {
  reads = ap (λ (k : ℕ). read r (cuts_up_to k text)) n ∙ ap (λ (s : Reading). read s (cuts_up_to (length text) text)) e;
  position = ap (λ (s : Reading). s.from + length text) e;
  enough = omega (arith, n);
  utf8 = u;
}

module _ (whole : Result Reading LexFault) (end turns : ℕ) (r : Reading) (rest : List ℕ) (way : IsOnTheWay whole end turns r rest) (l : 0 < length rest) where
  pub on_the_way-bad : (fault : CutFault) → cut_first_lexeme rest ≡ Err fault → fault_met r fault ≡ whole
  on_the_way-bad fault e = sym (read_bad r turns rest fault l (omega (arith, way.enough, l)) e) ∙ way.reads

  module _ (p : Lexeme) (len fewer : ℕ) (e : cut_first_lexeme rest ≡ Ok (p, len)) (n : turns ≡ suc fewer) where
    -- the whole, from what the lexeme at the front leads to
    turn : and_then (step r p (take len rest)) (λ next. read next (cuts_up_to fewer (drop len rest))) ≡ whole
    turn = sym (read_step r fewer rest p len l e) ∙ ap (λ (k : ℕ). read r (cuts_up_to k rest)) (sym n) ∙ way.reads

    pub on_the_way-fault : (found : LexFault) (front : List ℕ) → front ≡ take len rest → step r p front ≡ Err found → Err found ≡ whole
    on_the_way-fault found front taken stopped =
        let so : step r p (take len rest) ≡ Err found = ap (step r p) (sym taken) ∙ stopped in
        ap (λ (x : Result Reading LexFault). and_then x (λ next. read next (cuts_up_to fewer (drop len rest)))) (sym so) ∙ turn

    -- the text may be cut after that lexeme
    pub lexeme_at : IsLexeme rest len
    lexeme_at = cut_lexeme rest p len way.utf8 l e

    pub on_the_way-step : (next : Reading) (front back : List ℕ) → front ≡ take len rest → back ≡ drop len rest
        → step r p front ≡ Ok next → IsOnTheWay whole end fewer next back
    on_the_way-step next front back taken dropped stepped =
        let least : 1 ≤ len = lexeme_at.least in
        let most : len ≤ length rest = lexeme_at.boundary.0 in
        let so : step r p (take len rest) ≡ Ok next = ap (step r p) (sym taken) ∙ stepped in
        let moved : next.from ≡ r.from + length (take len rest) = from-step r p (take len rest) next so in
        let left : length back ≡ length (drop len rest) = ap length dropped in
        record {
          reads = ap (λ (z : List ℕ). read next (cuts_up_to fewer z)) dropped
              ∙ ap (λ (x : Result Reading LexFault). and_then x (λ next. read next (cuts_up_to fewer (drop len rest)))) (sym so) ∙ turn;
          position = omega (arith, moved, left, way.position, most, length-take len rest, length-drop len rest);
          enough = omega (arith, left, way.enough, n, least, length-drop len rest);
          utf8 = subst IsUtf8 (sym dropped) (IsUtf8-drop rest len way.utf8 lexeme_at.boundary);
        }
