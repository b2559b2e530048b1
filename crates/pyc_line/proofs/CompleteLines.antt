-- Each well-formed line is read back from its tokens.
use Rattle.std.proofs.Common.{◌≡◌, refl, ap, sym, ◌∙◌, ℕ, zero, suc, ◌≤◌, Bool, true, false, if◌then◌else◌, List, [], ◌∷◌, ◌++◌, length, length-append, Option, None, Some, append-nil, arith}
use Rattle.std.proofs.lemmas.Bool.{le-leb}
use Rattle.pyc_token.specs.declared.tokens.Arithmetic.TheVariants as op
use Rattle.pyc_token.specs.declared.tokens.Delimiter.TheVariants as delimiter
use Rattle.pyc_token.specs.declared.tokens.Keyword.TheVariants as word
use Rattle.pyc_token.specs.declared.tokens.Kind.{Kind}
use Rattle.pyc_token.specs.declared.tokens.Kind.TheVariants as kind
use Rattle.pyc_token.specs.declared.tokens.Token.{Token}
use Rattle.pyc_tree.specs.declared.list_context.ListContext.TheVariants as list_context
use Rattle.pyc_tree.specs.Tree.{Tree}
use Rattle.pyc_tree.specs.Kinds.{kind_of}
use Rattle.pyc_tree.specs.Yield.{yield_of, tail_yield}
use Rattle.pyc_tree.specs.Height.{height, max_height}
use Rattle.pyc_tree.specs.ListContexts.{begins}
use Rattle.pyc_tree.specs.Well.{is_yield, is_expression_list}
use Rattle.pyc_tree.specs.WellLines.{is_word_statement, is_declaration, IsStatement, AreStatements, MayBeStatements, IsLine, IsWellLine}
use Rattle.pyc_tree.specs.Statements.{SimpleStatement, Separated, no_item, last_item, item, separated_yield, statement_yield, statement_height, targets_yield}
use Rattle.pyc_tree.specs.Statements as statement
use Rattle.pyc_tree.specs.Lines as line
use Rattle.pyc_tree.specs.Lines.{Header, Line, header_yield, line_yield, line_height, statements_height}
use Rattle.pyc_tree.specs.Parser.{Parser, take_one, expect}
use Rattle.pyc_tree.specs.Expressions.{expression}
use Rattle.pyc_tree.specs.SimpleStatements as simple
use Rattle.pyc_tree.specs.Headers as grammar
use Rattle.pyc_line.proofs.SoundTables.{never}
use Rattle.pyc_line.proofs.CompleteTools.{step, expected}
use Rattle.pyc_line.proofs.CompleteTables.{either}
use Rattle.pyc_line.proofs.Complete.{Full, in_front}
use Rattle.pyc_line.proofs.CompleteItems.{after}
use Rattle.pyc_line.proofs.CompleteLists.{list_begins}
use Rattle.pyc_line.proofs.CompleteNames.{how_many}
use Rattle.pyc_line.proofs.CompleteStatements.{yield_kind, target_list, single_list, simple_full}
use Rattle.pyc_line.proofs.CompleteHeaders.{Refuses, header_full}
use Rattle.pyc_line.proofs.CompleteExpressions.{expression_full}
use Rattle.pyc_line.proofs.CompleteRefused.{with_refuses}

-- ---- what a statement begins with

-- whether a token may begin a simple statement
abbrev begins_statement : Kind → Bool
begins_statement (kind.Keyword word.Pass) = true
begins_statement (kind.Keyword word.Break) = true
begins_statement (kind.Keyword word.Continue) = true
begins_statement (kind.Keyword word.Return) = true
begins_statement (kind.Keyword word.Raise) = true
begins_statement (kind.Keyword word.Assert) = true
begins_statement (kind.Keyword word.Del) = true
begins_statement (kind.Keyword word.Global) = true
begins_statement (kind.Keyword word.Nonlocal) = true
begins_statement (kind.Keyword word.Import) = true
begins_statement (kind.Keyword word.From) = true
begins_statement (kind.Keyword word.Yield) = true
begins_statement k = begins list_context.Items k

list_statement : (k : Kind) → begins list_context.Items k ≡ true → begins_statement k ≡ true
list_statement (kind.Keyword word.Pass) is = refl
list_statement (kind.Keyword word.Break) is = refl
list_statement (kind.Keyword word.Continue) is = refl
list_statement (kind.Keyword word.Return) is = refl
list_statement (kind.Keyword word.Raise) is = refl
list_statement (kind.Keyword word.Assert) is = refl
list_statement (kind.Keyword word.Del) is = refl
list_statement (kind.Keyword word.Global) is = refl
list_statement (kind.Keyword word.Nonlocal) is = refl
list_statement (kind.Keyword word.Import) is = refl
list_statement (kind.Keyword word.From) is = refl
list_statement (kind.Keyword word.Yield) is = refl
list_statement _ is = is

word_begins : (k : Kind) → is_word_statement k ≡ true → begins_statement k ≡ true
word_begins (kind.Keyword word.Pass) is = refl
word_begins (kind.Keyword word.Break) is = refl
word_begins (kind.Keyword word.Continue) is = refl
word_begins _ is = never is

declaration_begins : (k : Kind) → is_declaration k ≡ true → begins_statement k ≡ true
declaration_begins (kind.Keyword word.Global) is = refl
declaration_begins (kind.Keyword word.Nonlocal) is = refl
declaration_begins _ is = never is

statement_begins : (s : SimpleStatement) (rest : List Token) → IsStatement s → begins_statement (kind_of (statement_yield s ++ rest)) ≡ true
unfolding IsStatement statement_yield
statement_begins (statement.expression e) rest well =
    either (is_yield e) (is_expression_list e) well.0
    (λ yields. ap begins_statement (yield_kind e rest yields well.1))
    (λ list. list_statement _ (list_begins e rest list well.1))
statement_begins (statement.assign [] e) rest well = absurd well
statement_begins (statement.assign (a ∷ more) e) rest well =
    in_front begins_statement (targets_yield (a ∷ more)) (yield_of e) rest
    (in_front begins_statement (yield_of a.target) (a.equal ∷ targets_yield more) (yield_of e ++ rest)
    (list_statement _ (list_begins a.target _ (target_list a.target well.0.0) well.0.1)))
statement_begins (statement.annotate target colon annotation value) rest well =
    in_front begins_statement (yield_of target) (colon ∷ (yield_of annotation ++ tail_yield value)) rest
    (list_statement _ (list_begins target _ (single_list target well.0) well.1))
statement_begins (statement.augment target sign e) rest well =
    in_front begins_statement (yield_of target) (sign ∷ yield_of e) rest (list_statement _ (list_begins target _ (single_list target well.0) well.1))
statement_begins (statement.word t) rest well = word_begins t.kind well
statement_begins (statement.return t value) rest well = ap begins_statement well.0
statement_begins (statement.raise t value cause) rest well = ap begins_statement well.0
statement_begins (statement.assert t test message) rest well = ap begins_statement well.0
statement_begins (statement.delete t to) rest well = ap begins_statement well.0
statement_begins (statement.declare t names) rest well = declaration_begins t.kind well.0
statement_begins (statement.import t modules) rest well = ap begins_statement well.0
statement_begins (statement.import_from t from word_import opening names closing) rest well = ap begins_statement well.0

some_token : (ts : List Token) → begins_statement (kind_of ts) ≡ true → 1 ≤ length ts
some_token [] is = never is
some_token (t ∷ ts) is = omega arith

not_ended : (ts : List Token) → begins_statement (kind_of ts) ≡ true → simple.at_end ts ≡ Some (false, ts)
not_ended [] is = never is
not_ended (t ∷ ts) is = refl

abbrev StatementYield : Separated SimpleStatement → List Token
StatementYield found = separated_yield statement_yield found

statements_begin : (found : Separated SimpleStatement) → AreStatements found → begins_statement (kind_of (StatementYield found)) ≡ true
statements_begin no_item are = absurd are
statements_begin (last_item s) are =
    ap (λ ts. begins_statement (kind_of ts)) (sym (append-nil (statement_yield s))) ∙ statement_begins s [] are
statements_begin (item s semicolon no_item) are = statement_begins s (semicolon ∷ []) are.1
statements_begin (item s semicolon (last_item u)) are = statement_begins s _ are.0
statements_begin (item s semicolon (item u next more)) are = statement_begins s _ are.0

few_statements : (found : Separated SimpleStatement) → AreStatements found → how_many found ≤ length (StatementYield found)
few_statements no_item are = absurd are
few_statements (last_item s) are = some_token (statement_yield s) (statements_begin (last_item s) are)
few_statements (item s semicolon no_item) are = omega (arith, length-append (statement_yield s) (semicolon ∷ []))
few_statements (item s semicolon (last_item u)) are =
    omega (arith, few_statements (last_item u) are.2, length-append (statement_yield s) (semicolon ∷ statement_yield u))
few_statements (item s semicolon (item u next more)) are =
    omega (
      arith,
      few_statements (item u next more) are.2,
      length-append (statement_yield s) (semicolon ∷ StatementYield (item u next more)),
    )

module _ (S : ℕ → Parser Tree) (full : Full S max_height) (rule_of_with : Refuses S) where
  low : max_height ≤ max_height
  low = omega arith

  -- ---- statements to the end of the line

  alone : (s : SimpleStatement) → IsStatement s → statement_height s ≤ suc max_height → simple.simple S (statement_yield s) ≡ Some (s, [])
  alone s well small =
      ap (simple.simple S) (sym (append-nil (statement_yield s))) ∙ simple_full S max_height full low s [] well small refl

  -- a statement, a semicolon and those after it
  next_statement : (n : ℕ) (s : SimpleStatement) (semicolon : Token) (more : Separated SimpleStatement) → IsStatement s → statement_height s ≤ suc max_height
      → semicolon.kind ≡ kind.Delimiter delimiter.Semicolon → begins_statement (kind_of (StatementYield more)) ≡ true
      → simple.statements S n (StatementYield more) ≡ Some (more, [])
      → simple.statements S (suc n) (statement_yield s ++ (semicolon ∷ StatementYield more)) ≡ Some (item s semicolon more, [])
  unfolding simple.statements
  next_statement n s semicolon more well small same begun later =
      let left : List Token = StatementYield more in
      step (simple.simple S (statement_yield s ++ (semicolon ∷ left))) _ s (semicolon ∷ left) _
      (simple_full S max_height full low s (semicolon ∷ left) well small same)
      (step (expect (kind.Delimiter delimiter.Semicolon) (semicolon ∷ left)) _ semicolon left _
      (expected (kind.Delimiter delimiter.Semicolon) semicolon left same)
      (step (simple.at_end left) _ false left _ (not_ended left begun)
      (step (simple.statements S n left) _ more [] _ later refl)))

  statements_full : (found : Separated SimpleStatement) (n : ℕ) → AreStatements found → statements_height found ≤ suc max_height → how_many found ≤ n
      → simple.statements S n (StatementYield found) ≡ Some (found, [])
  unfolding simple.statements
  statements_full no_item n are small few = absurd are
  statements_full (last_item s) zero are small few = absurd (omega (arith, few))
  statements_full (item s semicolon more) zero are small few = absurd (omega (arith, few))
  statements_full (last_item s) (suc n) are small few = step (simple.simple S (statement_yield s)) _ s [] _ (alone s are small) refl
  statements_full (item s semicolon no_item) (suc n) are small few =
      step (simple.simple S (statement_yield s ++ (semicolon ∷ []))) _ s (semicolon ∷ []) _
      (simple_full S max_height full low s (semicolon ∷ []) are.1 (omega (arith, small)) are.2)
      (step (expect (kind.Delimiter delimiter.Semicolon) (semicolon ∷ [])) _ semicolon [] _
      (expected (kind.Delimiter delimiter.Semicolon) semicolon [] are.2) refl)
  statements_full (item s semicolon (last_item u)) (suc n) are small few =
      next_statement n s semicolon (last_item u) are.0 (omega (arith, small)) are.1 (statements_begin (last_item u) are.2)
      (statements_full (last_item u) n are.2 (omega (arith, small)) (omega (arith, few)))
  statements_full (item s semicolon (item u next more)) (suc n) are small few =
      next_statement n s semicolon (item u next more) are.0 (omega (arith, small)) are.1 (statements_begin (item u next more) are.2)
      (statements_full (item u next more) n are.2 (omega (arith, small)) (omega (arith, few)))

  all_statements_full : (found : Separated SimpleStatement) → AreStatements found → statements_height found ≤ suc max_height
      → simple.all_statements S (StatementYield found) ≡ Some (found, [])
  unfolding simple.all_statements
  all_statements_full found are small = statements_full found (length (StatementYield found)) are small (few_statements found are)

  -- ---- lines

  -- statements after a colon, or none
  suite_full : (h : Header) (colon : Token) (found : Separated SimpleStatement) → colon.kind ≡ kind.Delimiter delimiter.Colon → MayBeStatements found
      → statements_height found ≤ suc max_height
      → grammar.suite S h (colon ∷ StatementYield found) ≡ Some (line.header h colon found, [])
  unfolding grammar.suite
  suite_full h colon no_item is are small =
      step (expect (kind.Delimiter delimiter.Colon) (colon ∷ [])) _ colon [] _ (expected (kind.Delimiter delimiter.Colon) colon [] is) refl
  suite_full h colon found is are small =
      step (expect (kind.Delimiter delimiter.Colon) (colon ∷ StatementYield found)) _ colon (StatementYield found) _
      (expected (kind.Delimiter delimiter.Colon) colon (StatementYield found) is)
      (step (simple.at_end (StatementYield found)) _ false (StatementYield found) _ (not_ended (StatementYield found) (statements_begin found are))
      (step (simple.all_statements S (StatementYield found)) _ found [] _ (all_statements_full found are small) refl))

  by_statement : (k : Kind) → begins_statement k ≡ true → grammar.line_by S k ≡ grammar.simple_line S
  by_statement (kind.Arithmetic op.At) is = never is
  by_statement (kind.Keyword word.If) is = never is
  by_statement (kind.Keyword word.Elif) is = never is
  by_statement (kind.Keyword word.While) is = never is
  by_statement (kind.Keyword word.Else) is = never is
  by_statement (kind.Keyword word.Try) is = never is
  by_statement (kind.Keyword word.Finally) is = never is
  by_statement (kind.Keyword word.For) is = never is
  by_statement (kind.Keyword word.Except) is = never is
  by_statement (kind.Keyword word.With) is = never is
  by_statement (kind.Keyword word.Def) is = never is
  by_statement (kind.Keyword word.Class) is = never is
  by_statement (kind.Keyword word.Async) is = never is
  by_statement _ is = refl

  simple_line_full : (found : Separated SimpleStatement) → AreStatements found → statements_height found ≤ suc max_height
      → grammar.any_line S (StatementYield found) ≡ Some (line.simple found, [])
  unfolding grammar.any_line grammar.simple_line
  simple_line_full found are small =
      ap (λ (p : Parser Line). p (StatementYield found)) (by_statement (kind_of (StatementYield found)) (statements_begin found are))
      ∙ step (simple.all_statements S (StatementYield found)) _ found [] _ (all_statements_full found are small) refl

  decorator_full : (t : Token) (e : Tree) → IsLine (line.decorator t e) → height e ≤ max_height
      → grammar.any_line S (t ∷ yield_of e) ≡ Some (line.decorator t e, [])
  unfolding grammar.any_line grammar.decorator take_one
  decorator_full t e well small =
      ap (λ k. grammar.line_by S k (t ∷ yield_of e)) well.0
      ∙ (ap (λ z. grammar.decorator S (t ∷ z)) (sym (append-nil (yield_of e)))
      ∙ after S max_height full low 1 e [] _ _ well.2 small (omega arith) well.1 (record { loose = refl; string = refl }) refl)

  line_full : (l : Line) → IsLine l → line_height l ≤ max_height → grammar.any_line S (line_yield l) ≡ Some (l, [])
  unfolding line_yield line_height
  line_full (line.simple found) well small = simple_line_full found well (omega (arith, small))
  line_full (line.header h colon found) well small =
      header_full S full rule_of_with h (colon ∷ StatementYield found) _ well.0 (omega (arith, small)) well.1
      (suite_full h colon found well.1 well.2 (omega (arith, small)))
  line_full (line.decorator t e) well small = decorator_full t e well (omega (arith, small))

-- a well-formed line is read back from its tokens
pub line_complete : (ts : List Token) (l : Line) → IsWellLine l → line_yield l ≡ ts → grammar.line_tree ts ≡ Some l
unfolding grammar.line_tree
line_complete ts l well text =
    ap grammar.complete
    (ap (grammar.any_line expression) (sym text) ∙ line_full expression expression_full with_refuses l well.parts well.low)
    ∙ ap (λ (b : Bool). if◌then◌else◌ {A = Option Line} b (Some l) None) (le-leb (line_height l) max_height well.low)
