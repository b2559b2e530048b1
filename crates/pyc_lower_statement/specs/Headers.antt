-- The heads of compound statements (Python reference 3.13, "Compound statements").
use Rattle.std.specs.Prelude.{ℕ, Bool, false, List, [], ◌∷◌, Option, None, Some, is_some}
use Rattle.pyc_ast.specs.declared.position.Position.{Position}
use Rattle.pyc_ast.specs.Exprs.{Expr}
use Rattle.pyc_ast.specs.Statements.{For, WithItem, Stmts, StmtForm}
use Rattle.pyc_ast.specs.Statements as plain
use Rattle.pyc_ast.specs.Targets.{Target}
use Rattle.pyc_lower_atom.specs.declared.role.Role.TheVariants.{Value, Annotation}
use Rattle.pyc_lower_expression.specs.Expressions.{expr_in, arguments_in, first_role}
use Rattle.pyc_lower_atom.specs.Origins.{Origin, name_at, position_at}
use Rattle.pyc_lower_statement.specs.Parameters.{parameters_in, tail_in}
use Rattle.pyc_lower_statement.specs.Targets.{target_in}
use Rattle.pyc_token.specs.declared.tokens.Token.{Token}
use Rattle.pyc_tree.specs.Lines.{Header}
use Rattle.pyc_tree.specs.Lines as line
use Rattle.pyc_tree.specs.Tree.{Tree, Pieces, Tail}
use Rattle.pyc_tree.specs.Tree as tree

-- where a statement begins that may be `async`: at that word, else at its own
abbrev pub async_at : Origin → Option Token → Token → Position
async_at o None t = position_at o t
async_at o (Some word_async) t = position_at o word_async

-- where a header begins
abbrev pub header_at : Origin → Header → Position
header_at o (line.condition t e) = position_at o t
header_at o (line.word t) = position_at o t
header_at o (line.for_each word_async t targets word_in e) = async_at o word_async t
header_at o (line.except t) = position_at o t
header_at o (line.except_of t e alias) = position_at o t
header_at o (line.with word_async t items) = async_at o word_async t
header_at o (line.with_enclosed word_async t opening items closing) = async_at o word_async t
header_at o (line.def word_async t name opening parameters closing result) = async_at o word_async t
header_at o (line.class t name) = position_at o t
header_at o (line.class_of t name opening arguments closing) = position_at o t

module _ (spelled : List ℕ → Position → Option Expr) where
  -- "The for statement"
  abbrev pub for_in : Origin → Option Token → Tree → Tree → For
  for_in o word_async targets e =
      record {
        is_async = is_some word_async;
        target = target_in spelled o targets;
        iterable = expr_in spelled o Value e;
      }

  -- the target after `as`, where there is one
  unfoldable pub optional_target_in : Origin → Tail → Option Target
  optional_target_in o tree.nothing = None
  optional_target_in o (tree.after word_as e) = Some (target_in spelled o e)

  -- what an item of a `with` is assigned to ("The with statement")
  unfoldable pub with_target_in : Origin → Tree → Option Target
  with_target_in o (tree.with_item e target) = optional_target_in o target
  with_target_in o _ = None

  abbrev pub with_item_in : Origin → Tree → WithItem
  with_item_in o e = record { context = expr_in spelled o Value e; target = with_target_in o e }

  -- the items of a `with`
  unfoldable pub with_items_in : Origin → Pieces → List WithItem
  with_items_in o tree.none = []
  with_items_in o (tree.last e) = with_item_in o e ∷ []
  with_items_in o (tree.piece e comma rest) = with_item_in o e ∷ with_items_in o rest

  -- a function or a class, by its decorators, whether its body suspends, its header and its body ("Function
  -- definitions", "Class definitions"); no other header defines
  abbrev pub definition_in : Origin → List Expr → Bool → Header → Stmts → StmtForm
  definition_in o decorators suspends (line.def word_async t name opening parameters closing result) body =
      plain.function (record {
        decorators = decorators;
        is_async = is_some word_async;
        name = name_at o name;
        parameters = parameters_in spelled o false parameters;
        returns = tail_in spelled o Annotation result;
        suspends = suspends;
      }) body
  definition_in o decorators suspends (line.class t name) body =
      plain.class (record { decorators = decorators; name = name_at o name; arguments = []; suspends = suspends }) body
  definition_in o decorators suspends (line.class_of t name opening arguments closing) body =
      plain.class (record {
        decorators = decorators;
        name = name_at o name;
        arguments = arguments_in spelled o (first_role Value arguments) Value arguments;
        suspends = suspends;
      }) body
  definition_in o decorators suspends _ body = plain.pass
