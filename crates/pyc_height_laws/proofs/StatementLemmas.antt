-- No expression of a simple statement is as high as the statement of the grammar.
use Rattle.std.proofs.Common.{◌≡◌, ◌≤◌, refl, arith, ℕ, List, [], ◌∷◌, Option}
use Rattle.pyc_ast.specs.declared.position.Position.{Position}
use Rattle.pyc_ast.specs.Exprs.{Expr}
use Rattle.pyc_ast.specs.Statements.{stmts}
use Rattle.pyc_expr.specs.Heights.{height}
use Rattle.pyc_height_laws.specs.Heights.{highest, if_there, target_height, stmt_height, form_height, stmts_height}
use Rattle.pyc_height_laws.proofs.ExpressionLemmas.{expr_low}
use Rattle.pyc_height_laws.proofs.TargetLemmas.{target_low}
use Rattle.pyc_lower_atom.specs.declared.role.Role.{Role}
use Rattle.pyc_lower_atom.specs.declared.role.Role.TheVariants.{Value, Annotation}
use Rattle.pyc_lower_atom.specs.Origins.{Origin, name_at}
use Rattle.pyc_lower_statement.specs.Parameters.{perhaps_in, tail_in}
use Rattle.pyc_lower_statement.specs.Statements.{separated_in, word_form, declared_form, assigned_in, statement_in}
use Rattle.pyc_token.specs.declared.tokens.Keyword.TheVariants as word
use Rattle.pyc_token.specs.declared.tokens.Kind.{Kind}
use Rattle.pyc_token.specs.declared.tokens.Kind.TheVariants as kind
use Rattle.pyc_tree.specs.Height as concrete
use Rattle.pyc_tree.specs.Statements.{Separated, SimpleStatement, Assigned, targets_height, statement_height}
use Rattle.pyc_tree.specs.Statements as tree
use Rattle.pyc_tree.specs.Lines.{statements_height}
use Rattle.pyc_tree.specs.Tree.{Perhaps, Tail}
use Rattle.pyc_tree.specs.Tree as part

word_height : (k : Kind) → form_height (word_form k) ≡ 0
word_height (kind.Keyword word.Break) = refl
word_height (kind.Keyword word.Continue) = refl
word_height _ = refl

declared_height : (k : Kind) (names : List (List ℕ)) → form_height (declared_form k names) ≡ 0
declared_height (kind.Keyword word.Nonlocal) names = refl
declared_height _ names = refl

module _ (spelled : List ℕ → Position → Option Expr) where
  pub perhaps_low : (o : Origin) (role : Role) (t : Perhaps) → if_there height (perhaps_in spelled o role t) ≤ concrete.perhaps_height t
  unfolding concrete.height
  perhaps_low o role part.absent = omega arith
  perhaps_low o role (part.present e) = expr_low spelled o role e

  pub tail_low : (o : Origin) (role : Role) (t : Tail) → if_there height (tail_in spelled o role t) ≤ concrete.tail_height t
  unfolding concrete.height
  tail_low o role part.nothing = omega arith
  tail_low o role (part.after t e) = expr_low spelled o role e

  assigned_low : (o : Origin) (assigned : List Assigned) → highest target_height (assigned_in spelled o assigned) ≤ targets_height assigned
  assigned_low o [] = omega arith
  assigned_low o (found ∷ more) = omega (arith, target_low spelled o found.target, assigned_low o more)

  pub statement_low : (o : Origin) (s : SimpleStatement) → stmt_height (statement_in spelled o s) ≤ statement_height s
  unfolding statement_height
  statement_low o (tree.expression e) = omega (arith, expr_low spelled o Value e)
  statement_low o (tree.assign assigned e) = omega (arith, assigned_low o assigned, expr_low spelled o Value e)
  statement_low o (tree.annotate to colon annotation value) =
      omega (arith, target_low spelled o to, expr_low spelled o Annotation annotation, tail_low o Value value)
  statement_low o (tree.augment to sign e) = omega (arith, target_low spelled o to, expr_low spelled o Value e)
  statement_low o (tree.word t) = omega (arith, word_height t.kind)
  statement_low o (tree.return t value) = omega (arith, perhaps_low o Value value)
  statement_low o (tree.raise t value cause) = omega (arith, perhaps_low o Value value, tail_low o Value cause)
  statement_low o (tree.assert t test message) = omega (arith, expr_low spelled o Value test, tail_low o Value message)
  statement_low o (tree.delete t targets) = omega (arith, target_low spelled o targets)
  statement_low o (tree.declare t names) = omega (arith, declared_height t.kind (separated_in (name_at o) names))
  statement_low o (tree.import t modules) = omega arith
  statement_low o (tree.import_from t source word_import opening names closing) = omega arith

  pub separated_low : (o : Origin) (found : Separated SimpleStatement) → stmts_height (stmts (separated_in (statement_in spelled o) found)) ≤ statements_height found
  separated_low o tree.no_item = omega arith
  separated_low o (tree.last_item s) = omega (arith, statement_low o s)
  separated_low o (tree.item s between rest) = omega (arith, statement_low o s, separated_low o rest)
