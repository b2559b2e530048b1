-- No expression of the head of a compound statement is as high as the header of the grammar.
use Rattle.std.proofs.Common.{◌≡◌, ◌≤◌, ◌||◌, refl, arith, ℕ, Bool, false, max, List, [], ◌∷◌, Option, None, Some}
use Rattle.std.specs.List.{cons_option}
use Rattle.pyc_ast.specs.declared.position.Position.{Position}
use Rattle.pyc_ast.specs.Exprs.{Expr, Argument, arguments}
use Rattle.pyc_ast.specs.Statements.{Parameter, Stmts}
use Rattle.pyc_expr.specs.Heights.{height, arguments_height, argument_height}
use Rattle.pyc_height_laws.specs.Heights.{highest, if_there, target_height, parameter_height, for_height, with_item_height, form_height, stmts_height}
use Rattle.pyc_height_laws.proofs.ExpressionLemmas.{expr_low, arguments_low}
use Rattle.pyc_height_laws.proofs.StatementLemmas.{tail_low}
use Rattle.pyc_height_laws.proofs.TargetLemmas.{target_low}
use Rattle.pyc_lower_atom.specs.declared.role.Role.TheVariants.{Value, Annotation}
use Rattle.pyc_lower_atom.specs.Origins.{Origin}
use Rattle.pyc_lower_expression.specs.Expressions.{first_role, arguments_in}
use Rattle.pyc_lower_statement.specs.Headers.{for_in, with_target_in, optional_target_in, with_item_in, with_items_in, definition_in}
use Rattle.pyc_lower_statement.specs.Parameters.{is_star, parameter_in, parameters_in}
use Rattle.pyc_token.specs.declared.tokens.Token.{Token}
use Rattle.pyc_tree.specs.Height as concrete
use Rattle.pyc_tree.specs.Lines.{Header, header_height}
use Rattle.pyc_tree.specs.Lines as line
use Rattle.pyc_tree.specs.Tree.{Tree, Pieces}
use Rattle.pyc_tree.specs.Tree as tree

joined_height : (p : Option Parameter) (rest : List Parameter) → highest parameter_height (cons_option p rest) ≡ max (if_there parameter_height p) (highest parameter_height rest)
joined_height None rest = omega arith
joined_height (Some p) rest = refl

listed_height : (found : List Argument) → highest argument_height found ≡ arguments_height (arguments found)
listed_height [] = refl
listed_height (x ∷ found) = omega (arith, listed_height found)

module _ (spelled : List ℕ → Position → Option Expr) where
  parameter_low : (o : Origin) (after_star : Bool) (t : Tree) → if_there parameter_height (parameter_in spelled o after_star t) ≤ concrete.height t
  unfolding parameter_in concrete.height
  parameter_low o after_star (tree.parameter name annotation default) =
      omega (arith, tail_low spelled o Annotation annotation, tail_low spelled o Value default)
  parameter_low o after_star (tree.star_parameter star name annotation) = omega (arith, tail_low spelled o Annotation annotation)
  parameter_low o after_star (tree.double_parameter stars name annotation) = omega (arith, tail_low spelled o Annotation annotation)
  parameter_low o after_star _ = omega arith

  parameters_low : (o : Origin) (after_star : Bool) (items : Pieces) → highest parameter_height (parameters_in spelled o after_star items) ≤ concrete.pieces_height items
  unfolding parameters_in concrete.height
  parameters_low o after_star tree.none = omega arith
  parameters_low o after_star (tree.last e) =
      omega (arith, joined_height (parameter_in spelled o after_star e) [], parameter_low o after_star e)
  parameters_low o after_star (tree.piece e comma rest) =
      omega (arith, joined_height (parameter_in spelled o after_star e) (parameters_in spelled o (after_star || is_star e) rest), parameter_low o after_star e, parameters_low o (after_star || is_star e) rest)

  pub for_low : (o : Origin) (word_async : Option Token) (targets e : Tree) → for_height (for_in spelled o word_async targets e) ≤ max (concrete.height targets) (concrete.height e)
  for_low o word_async targets e = omega (arith, target_low spelled o targets, expr_low spelled o Value e)

  with_target_low : (o : Origin) (t : Tree) → if_there target_height (with_target_in spelled o t) ≤ concrete.height t
  unfolding with_target_in optional_target_in concrete.height
  with_target_low o (tree.with_item e tree.nothing) = omega arith
  with_target_low o (tree.with_item e (tree.after word_as to)) = omega (arith, target_low spelled o to)
  with_target_low o _ = omega arith

  with_item_low : (o : Origin) (e : Tree) → with_item_height (with_item_in spelled o e) ≤ concrete.height e
  with_item_low o e = omega (arith, expr_low spelled o Value e, with_target_low o e)

  pub with_items_low : (o : Origin) (items : Pieces) → highest with_item_height (with_items_in spelled o items) ≤ concrete.pieces_height items
  unfolding with_items_in concrete.height
  with_items_low o tree.none = omega arith
  with_items_low o (tree.last e) = omega (arith, with_item_low o e)
  with_items_low o (tree.piece e comma rest) = omega (arith, with_item_low o e, with_items_low o rest)

  -- a function or a class, of decorators and a body
  pub definition_low : (o : Origin) (decorators : List Expr) (suspends : Bool) (h : Header) (body : Stmts)
      → form_height (definition_in spelled o decorators suspends h body) ≤ max (highest height decorators) (max (header_height h) (stmts_height body))
  unfolding header_height
  definition_low o decorators suspends (line.def word_async t name opening parameters closing result) body =
      omega (arith, parameters_low o false parameters, tail_low spelled o Annotation result)
  definition_low o decorators suspends (line.class t name) body = omega arith
  definition_low o decorators suspends (line.class_of t name opening items closing) body =
      omega (arith, listed_height (arguments_in spelled o (first_role Value items) Value items), arguments_low spelled o (first_role Value items) Value items)
  definition_low o decorators suspends _ body = omega arith
