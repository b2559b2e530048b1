-- Exceptions that are raised, and assertions (Python reference 3.13, "The raise statement" and "The assert statement";
-- typing specification, "Type narrowing").
use Rattle.std.specs.Prelude.{Option}
use Rattle.pyc_ast.specs.Exprs.{Expr}
use Rattle.pyc_body_context.specs.Bodies.{Body}
use Rattle.pyc_locals.specs.FlowStates.{FlowState, in_state}
use Rattle.pyc_reading.specs.Traces.{Step}
use Rattle.pyc_reading.specs.Readings.{Done, ◌>>=◌}
use Rattle.pyc_simple_statements.specs.Expressions.{optional_read, check_test}
use Rattle.pyc_simple_statements.specs.Returning.{conclude}

module _ (body : Body) where
  -- the exception is read, and then its cause
  unfoldable pub raised : Option Expr → Option Expr → FlowState → Step FlowState
  raised exception cause p = do
    u ← optional_read body p exception
    v ← optional_read body p cause
    Done (conclude p)

  -- the message is read where the test failed; a run goes on where it held
  unfoldable pub asserted : Expr → Option Expr → FlowState → Step FlowState
  asserted test message p = do
    states ← check_test body test p
    u ← optional_read body (in_state p states.if_false) message
    Done (in_state p states.if_true)
