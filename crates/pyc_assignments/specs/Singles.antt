-- What an assignment to one target meets (Python reference 3.13, "Assignment statements").
use Rattle.std.specs.Prelude.{ℕ, Bool, true, false, List, None}
use Rattle.pyc_assignments.specs.Reads.{AssignmentOutcome, Reads, target_type_outcome, free_outcome, infer_type_at}
use Rattle.pyc_ast.specs.declared.position.Position.{Position}
use Rattle.pyc_ast.specs.Exprs.{Expr, Index}
use Rattle.pyc_ast.specs.Targets.{Target, target, TargetForm, name, attribute, subscript, unpacking}
use Rattle.pyc_locals.specs.FlowStates.{FlowState}
use Rattle.pyc_reading.specs.Traces.{Step}
use Rattle.pyc_reading.specs.Readings.{Done, and_then}
use Rattle.pyc_targets.specs.AttributeTargets.{attribute_want}
use Rattle.pyc_targets.specs.ItemTargets.{item_target}
use Rattle.pyc_targets.specs.TargetTypes.{plain_target_type}

-- an attribute takes what it is declared as in what its owner is
unfoldable pub attribute_outcome : Reads → FlowState → (at inside : Position) → Expr → List ℕ → Step AssignmentOutcome
attribute_outcome read p at inside x n =
    and_then (read.value p x None) (λ owner.
    and_then (attribute_want at inside owner n) (λ want. Done (target_type_outcome (plain_target_type want))))

-- an item takes what its owner takes at the index
unfoldable pub subscript_outcome : Reads → FlowState → (at inside : Position) → Expr → Index → Step AssignmentOutcome
subscript_outcome read p at inside x brackets =
    and_then (infer_type_at read p x None) (λ ty.
    and_then (read.index p brackets) (λ got.
    and_then (item_target at inside brackets got ty) (λ target_type. Done (target_type_outcome target_type))))

-- a target by its form, which begins at the first position, its parentheses included; to a tuple or a list of targets
-- nothing is required as a whole
abbrev pub form_outcome : Reads → FlowState → (at inside : Position) → TargetForm → Step AssignmentOutcome
form_outcome read p at inside (name x) = read.outcome p x
form_outcome read p at inside (attribute x n) = attribute_outcome read p at inside x n
form_outcome read p at inside (subscript x brackets) = subscript_outcome read p at inside x brackets
form_outcome read p at inside (unpacking elements) = Done free_outcome

-- what an assignment to a target meets, whose parts are read at a point
abbrev pub outcome : Reads → FlowState → Target → Step AssignmentOutcome
outcome read p (target at inside form) = form_outcome read p at inside form

-- whether a target is a tuple or a list of targets
abbrev pub is_unpacking_form : TargetForm → Bool
is_unpacking_form (unpacking elements) = true
is_unpacking_form _ = false

abbrev pub is_unpacking : Target → Bool
is_unpacking (target at inside form) = is_unpacking_form form
