-- By what an assignment is read.
use Rattle.std.specs.Prelude.{ℕ, List, Option, None}
use Rattle.pyc_ast.specs.Exprs.{Expr, Index}
use Rattle.pyc_locals.specs.FlowStates.{FlowState}
use Rattle.pyc_obligations.specs.Values.{Value}
use Rattle.pyc_reading.specs.Traces.{Step}
use Rattle.pyc_reading.specs.Readings.{Done, and_then}
use Rattle.pyc_targets.specs.TargetTypes.{TargetType, plain_target_type}
use Rattle.pyc_type_forms.specs.Types.{Ty}

-- what an assignment to one target meets
pub data AssignmentOutcome : Type 0 where
  -- a place that takes what it is declared as, or anything
  target_type_outcome : TargetType → AssignmentOutcome
  -- a local that nothing has declared before: the assignment declares it
  new_local : List ℕ → AssignmentOutcome

-- what an assignment meets to a target of which nothing is required
abbrev pub free_outcome : AssignmentOutcome
free_outcome = target_type_outcome (plain_target_type None)

-- the type that is expected of a value for what its target meets
abbrev pub want_of : AssignmentOutcome → Option Ty
want_of (target_type_outcome found) = found.want
want_of (new_local x) = None

-- what the parts of an assignment are
pub record Reads : Type 0 where
  -- what an expression is at a point, by what is expected of it
  pub value : FlowState → Expr → Option Ty → Step Value
  -- the type of what stands between brackets, at a point
  pub index : FlowState → Index → Step Ty
  -- what an assignment to a name meets at a point
  pub outcome : FlowState → List ℕ → Step AssignmentOutcome
  -- the type that an annotation means
  pub annotated : Expr → Step Ty

-- the type of an expression at a point, by what is expected of it
unfoldable pub infer_type_at : Reads → FlowState → Expr → Option Ty → Step Ty
infer_type_at read p x want = and_then (read.value p x want) (λ found. Done found.ty)
