-- What the grammar reads as a line is a well-formed line, whose tokens are those that were given.
use Rattle.std.proofs.Common.{◌≡◌, refl, ap, sym, ◌∙◌, ℕ, ◌≤◌, Bool, true, false, nat_le, if◌then◌else◌, List, [], ◌∷◌, Option, None, Some, append_assoc, append-nil, arith}
use Rattle.std.proofs.lemmas.Bool.{leb-true}
use Rattle.pyc_token.specs.declared.tokens.Arithmetic.TheVariants as op
use Rattle.pyc_token.specs.declared.tokens.Delimiter.TheVariants as delimiter
use Rattle.pyc_token.specs.declared.tokens.Keyword.TheVariants as word
use Rattle.pyc_token.specs.declared.tokens.Kind.{Kind}
use Rattle.pyc_token.specs.declared.tokens.Kind.TheVariants as kind
use Rattle.pyc_token.specs.declared.tokens.Token.{Token}
use Rattle.pyc_tree.specs.Tree.{Tree}
use Rattle.pyc_tree.specs.Kinds.{kind_of}
use Rattle.pyc_tree.specs.Height.{max_height}
use Rattle.pyc_tree.specs.ListContexts.{is_colon}
use Rattle.pyc_tree.specs.WellLines.{is_condition, is_word_header, AreStatements, MayBeStatements, IsLine, IsWellLine}
use Rattle.pyc_tree.specs.Statements.{SimpleStatement, Separated, no_item, last_item, item}
use Rattle.pyc_tree.specs.Lines as line
use Rattle.pyc_tree.specs.Lines.{Header, Line, line_yield, line_height}
use Rattle.pyc_tree.specs.Parser.{Parsed, Parser}
use Rattle.pyc_tree.specs.Expressions.{expression}
use Rattle.pyc_tree.specs.SimpleStatements.{all_statements}
use Rattle.pyc_tree.specs.Headers as grammar
use Rattle.pyc_tree.specs.Headers.{line_tree}
use Rattle.pyc_line.proofs.Sound.{Good}
use Rattle.pyc_line.proofs.SoundTools.{refused, bind, choose, after_one, after_expected, pure_as}
use Rattle.pyc_line.proofs.SoundItems.{after_self}
use Rattle.pyc_line.proofs.SoundExpressions.{expression_sound}
use Rattle.pyc_line.proofs.SoundStatements.{Spells, after_end, all_statements_sound}
use Rattle.pyc_line.proofs.CompleteWith.{with_opens}
use Rattle.pyc_line.proofs.SoundHeaders.{IsHead, Opens, word_header_sound, condition_sound, for_each_sound, except_header_sound, with_sound, function_sound, class_sound, async_sound}

-- statements after a colon may be there
may_be : (found : Separated SimpleStatement) → AreStatements found → MayBeStatements found
may_be no_item are = tt
may_be (last_item s) are = are
may_be (item s between more) are = are

module _ (S : ℕ → Parser Tree) (good : Good S) (rule_of_with : Opens S) where
  decorator_sound : (ts : List Token) (l : Line) (rest : List Token) → kind_of ts ≡ kind.Arithmetic op.At
      → grammar.decorator S ts ≡ Some (l, rest) → Spells IsLine line_yield ts l rest
  unfolding grammar.decorator line_yield
  decorator_sound ts l rest is e =
      after_one _ ts (l, rest) e (λ t ts1 is_one same e1.
      after_self S good 1 _ ts1 (l, rest) e1 (omega arith) (omega arith) (λ x ts2 got e2.
      pure_as (Spells IsLine line_yield ts) (line.decorator t x) l ts2 rest e2
      (record { well = (same ∙ is, got.high, got.well); text = cc })))

  suite_sound : (h : Header) (ts0 ts : List Token) (l : Line) (rest : List Token) → IsHead ts0 h ts
      → grammar.suite S h ts ≡ Some (l, rest) → Spells IsLine line_yield ts0 l rest
  unfolding grammar.suite line_yield
  suite_sound h ts0 ts l rest head e =
      after_expected (kind.Delimiter delimiter.Colon) _ ts (l, rest) e (λ colon ts1 is_one sign e1.
      let comes : is_colon (kind_of ts) ≡ true = ap (λ z. is_colon (kind_of z)) is_one ∙ ap is_colon sign in
      after_end _ ts1 (l, rest) e1 (λ is_empty e2.
      choose _ _ is_empty ts1 (l, rest) e2
      (λ parse_empty_brackets e3.
      pure_as (Spells IsLine line_yield ts0) (line.header h colon no_item) l ts1 rest e3
      (record { well = (head.well comes, sign, tt); text = simp append_assoc (cc) }))
      (λ some e3.
      bind (all_statements S ts1) _ (l, rest) e3 (λ found ts2 is_found e4.
      let are = all_statements_sound S good ts1 found ts2 is_found in
      pure_as (Spells IsLine line_yield ts0) (line.header h colon found) l ts2 rest e4
      (record { well = (head.well comes, sign, may_be found are.well); text = simp append_assoc (cc) })))))

  headed_sound : (p : Parser Header) (ts : List Token) (l : Line) (rest : List Token)
      → ((h : Header) (left : List Token) → p ts ≡ Some (h, left) → IsHead ts h left)
      → grammar.headed S p ts ≡ Some (l, rest) → Spells IsLine line_yield ts l rest
  unfolding grammar.headed
  headed_sound p ts l rest heads e = bind (p ts) _ (l, rest) e (λ h ts1 is e1. suite_sound h ts ts1 l rest (heads h ts1 is) e1)

  simple_line_sound : (ts : List Token) (l : Line) (rest : List Token) → grammar.simple_line S ts ≡ Some (l, rest)
      → Spells IsLine line_yield ts l rest
  unfolding grammar.simple_line line_yield
  simple_line_sound ts l rest e =
      bind (all_statements S ts) _ (l, rest) e (λ found ts1 is_found e1.
      let are = all_statements_sound S good ts found ts1 is_found in
      pure_as (Spells IsLine line_yield ts) (line.simple found) l ts1 rest e1 (record { well = are.well; text = are.text }))

  line_by_sound : (k : Kind) (ts : List Token) (l : Line) (rest : List Token) → kind_of ts ≡ k → grammar.line_by S k ts ≡ Some (l, rest)
      → Spells IsLine line_yield ts l rest
  line_by_sound (kind.Arithmetic op.At) ts l rest is e = decorator_sound ts l rest is e
  line_by_sound (kind.Keyword word.If) ts l rest is e =
      headed_sound (grammar.condition S) ts l rest (λ h left p. condition_sound S good rule_of_with ts h left (ap is_condition is) p) e
  line_by_sound (kind.Keyword word.Elif) ts l rest is e =
      headed_sound (grammar.condition S) ts l rest (λ h left p. condition_sound S good rule_of_with ts h left (ap is_condition is) p) e
  line_by_sound (kind.Keyword word.While) ts l rest is e =
      headed_sound (grammar.condition S) ts l rest (λ h left p. condition_sound S good rule_of_with ts h left (ap is_condition is) p) e
  line_by_sound (kind.Keyword word.Else) ts l rest is e =
      headed_sound grammar.word_header ts l rest (λ h left p. word_header_sound ts h left (ap is_word_header is) p) e
  line_by_sound (kind.Keyword word.Try) ts l rest is e =
      headed_sound grammar.word_header ts l rest (λ h left p. word_header_sound ts h left (ap is_word_header is) p) e
  line_by_sound (kind.Keyword word.Finally) ts l rest is e =
      headed_sound grammar.word_header ts l rest (λ h left p. word_header_sound ts h left (ap is_word_header is) p) e
  line_by_sound (kind.Keyword word.For) ts l rest is e =
      headed_sound (grammar.for_each S None) ts l rest (λ h left p. for_each_sound S good rule_of_with None ts ts h left tt refl is p) e
  line_by_sound (kind.Keyword word.Except) ts l rest is e =
      headed_sound (grammar.except_header S) ts l rest (λ h left p. except_header_sound S good rule_of_with ts h left is p) e
  line_by_sound (kind.Keyword word.With) ts l rest is e =
      headed_sound (grammar.with S None) ts l rest (λ h left p. with_sound S good rule_of_with None ts ts h left tt refl is p) e
  line_by_sound (kind.Keyword word.Def) ts l rest is e =
      headed_sound (grammar.function S None) ts l rest (λ h left p. function_sound S good rule_of_with None ts ts h left tt refl is p) e
  line_by_sound (kind.Keyword word.Class) ts l rest is e =
      headed_sound (grammar.class S) ts l rest (λ h left p. class_sound S good rule_of_with ts h left is p) e
  line_by_sound (kind.Keyword word.Async) ts l rest is e =
      headed_sound (grammar.async S) ts l rest (λ h left p. async_sound S good rule_of_with ts h left is p) e
  line_by_sound _ ts l rest is e = simple_line_sound ts l rest e

  any_line_sound : (ts : List Token) (l : Line) (rest : List Token) → grammar.any_line S ts ≡ Some (l, rest) → Spells IsLine line_yield ts l rest
  unfolding grammar.any_line
  any_line_sound ts l rest e = line_by_sound (kind_of ts) ts l rest refl e

-- what is complete is all that was given, and low
completed : {G : Type 0} (o : Parsed Line) (l : Line) → grammar.complete o ≡ Some l
    → (◌≡◌ {A = Parsed Line} o (Some (l, [])) → line_height l ≤ max_height → G) → G
completed None l e go = refused l e
completed (Some (m, t ∷ ts)) l e go = refused l e
completed {G = G} (Some (m, [])) l e go = low_one (nat_le (line_height m) max_height) refl e
  where
    low_one : (b : Bool) → nat_le (line_height m) max_height ≡ b → if◌then◌else◌ {A = Option Line} b (Some m) None ≡ Some l → G
    low_one true low e =
        let same : m ≡ l = cc in
        go (ap (λ x. Some (x, [])) same) (leb-true (line_height l) max_height (ap (λ x. nat_le (line_height x) max_height) (sym same) ∙ low))
    low_one false low e = refused l e

-- the tree of a line is a well-formed line, its tokens are those of the line, and it is no higher than the profile
-- allows
pub line_sound : (ts : List Token) (l : Line) → line_tree ts ≡ Some l → IsWellLine l × (line_yield l ≡ ts) × (line_height l ≤ max_height)
unfolding line_tree
line_sound ts l e =
    completed (grammar.any_line expression ts) l e (λ is low.
    let got = any_line_sound expression expression_sound with_opens ts l [] is in
    (record { parts = got.well; low = low }, sym (got.text ∙ append-nil (line_yield l)), low))
