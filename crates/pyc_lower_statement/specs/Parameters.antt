-- The parameters of a function (Python reference 3.13, "Function definitions").
use Rattle.std.specs.Prelude.{ℕ, Bool, true, false, ◌||◌, if◌then◌else◌, List, [], Option, None, Some}
use Rattle.std.specs.List.{cons_option}
use Rattle.pyc_ast.specs.declared.parameter.ParameterKind.{ParameterKind}
use Rattle.pyc_ast.specs.declared.parameter.ParameterKind.TheVariants.{Plain, Star, KeywordOnly, DoubleStar}
use Rattle.pyc_ast.specs.declared.position.Position.{Position}
use Rattle.pyc_ast.specs.Exprs.{Expr}
use Rattle.pyc_ast.specs.Statements.{Parameter}
use Rattle.pyc_lower_atom.specs.declared.role.Role.{Role}
use Rattle.pyc_lower_atom.specs.declared.role.Role.TheVariants.{Value, Annotation}
use Rattle.pyc_lower_expression.specs.Expressions.{expr_in}
use Rattle.pyc_lower_atom.specs.Origins.{Origin, name_at, position_at}
use Rattle.pyc_tree.specs.Tree.{Tree, Pieces, Perhaps, Tail}
use Rattle.pyc_tree.specs.Tree as tree

-- how a parameter without a star is filled, by whether a `*` stands before it
abbrev pub kind_after : Bool → ParameterKind
kind_after after_star = if after_star then KeywordOnly else Plain

-- whether a parameter is `*name` or `*` alone
abbrev pub is_star : Tree → Bool
is_star (tree.star_parameter star name annotation) = true
is_star (tree.bare_star star) = true
is_star _ = false

module _ (spelled : List ℕ → Position → Option Expr) where
  -- an expression, where there is one
  abbrev pub perhaps_in : Origin → Role → Perhaps → Option Expr
  perhaps_in o role tree.absent = None
  perhaps_in o role (tree.present e) = Some (expr_in spelled o role e)

  -- the expression after a token, where there is one
  abbrev pub tail_in : Origin → Role → Tail → Option Expr
  tail_in o role tree.nothing = None
  tail_in o role (tree.after t e) = Some (expr_in spelled o role e)

  -- a parameter, by whether a `*` stands before it; `*` alone is none
  unfoldable pub parameter_in : Origin → Bool → Tree → Option Parameter
  parameter_in o after_star (tree.parameter name annotation default) =
      Some (record {
        at = position_at o name;
        kind = kind_after after_star;
        name = name_at o name;
        annotation = tail_in o Annotation annotation;
        default = tail_in o Value default;
      })
  parameter_in o after_star (tree.star_parameter star name annotation) =
      Some (record {
        at = position_at o star;
        kind = Star;
        name = name_at o name;
        annotation = tail_in o Annotation annotation;
        default = None;
      })
  parameter_in o after_star (tree.double_parameter stars name annotation) =
      Some (record {
        at = position_at o stars;
        kind = DoubleStar;
        name = name_at o name;
        annotation = tail_in o Annotation annotation;
        default = None;
      })
  parameter_in o after_star _ = None

  -- parameters, by whether a `*` stands before them
  unfoldable pub parameters_in : Origin → Bool → Pieces → List Parameter
  parameters_in o after_star tree.none = []
  parameters_in o after_star (tree.last e) = cons_option (parameter_in o after_star e) []
  parameters_in o after_star (tree.piece e comma rest) =
      cons_option (parameter_in o after_star e) (parameters_in o (after_star || is_star e) rest)
