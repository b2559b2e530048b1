-- Which keys whole expressions ask: files alone, where the names and the annotations in them do (Python reference 3.13,
-- "Expressions").
use Rattle.std.specs.Prelude.{ℕ, List, Option}
use Rattle.pyc_ast.specs.declared.position.Position.{Position}
use Rattle.pyc_ast.specs.Exprs.{Expr}
use Rattle.pyc_expr.specs.Values.{condition, infer}
use Rattle.pyc_expr_forms.specs.Contexts.{Context}
use Rattle.pyc_expression_laws.specs.FileKeys.{AsksFiles}
use Rattle.pyc_places.specs.States.{State}
use Rattle.pyc_type_forms.specs.Types.{Ty}

-- where an expression stands, its names and its annotations ask files alone
pub record ContextAsksFiles (context : Context) : Type 0 where
  pub resolve_name : (at : Position) (x : List ℕ) → AsksFiles (context.resolve_name at x)
  pub annotated : (x : Expr) → AsksFiles (context.annotated x)

-- then each expression does
abbrev pub ExpressionAsksFiles : Type 0
ExpressionAsksFiles =
    (context : Context) (s : State) (x : Expr) (want : Option Ty)
    → ContextAsksFiles context → AsksFiles (infer context s x want)

-- and each condition
abbrev pub ConditionAsksFiles : Type 0
ConditionAsksFiles =
    (context : Context) (s : State) (x : Expr) → ContextAsksFiles context → AsksFiles (condition context s x)
