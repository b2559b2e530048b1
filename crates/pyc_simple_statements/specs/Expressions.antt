-- The expressions of statements (Python reference 3.13, "Expression statements"): what they are at a point of a body.
use Rattle.std.specs.Prelude.{Option, None, Some}
use Rattle.pyc_ast.specs.Exprs.{Expr}
use Rattle.pyc_body_context.specs.Bodies.{Body}
use Rattle.pyc_body_context.specs.BodyNames.{body_context}
use Rattle.pyc_expr.specs.Values.{infer_type, read_by, condition}
use Rattle.pyc_locals.specs.FlowStates.{FlowState}
use Rattle.pyc_narrowing.specs.SplitStates.{SplitStates}
use Rattle.pyc_reading.specs.Traces.{Step}
use Rattle.pyc_reading.specs.Readings.{Done, ◌>>=◌}
use Rattle.pyc_type_forms.specs.Types.{Ty}

module _ (body : Body) where
  -- the type of an expression at a point, by some expected type
  abbrev pub part_type : FlowState → Expr → Option Ty → Step Ty
  part_type p x want = infer_type (body_context body p.locals) p.state x want

  -- an expression of which nothing is expected, whatever it is
  abbrev pub part_read : FlowState → Expr → Step (Unit {0})
  part_read p x = read_by (body_context body p.locals) p.state x

  -- some expression
  abbrev pub optional_read : FlowState → Option Expr → Step (Unit {0})
  optional_read p (Some x) = part_read p x
  optional_read p None = Done tt

  -- an expression statement
  unfoldable pub expression_read : Expr → FlowState → Step FlowState
  expression_read x p = do
    u ← part_read p x
    Done p

  -- a condition: the states after it
  abbrev pub check_test : Expr → FlowState → Step SplitStates
  check_test x p = condition (body_context body p.locals) p.state x
