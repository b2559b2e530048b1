-- Augmented assignments (Python reference 3.13, "Augmented assignment statements" and "Emulating numeric types").
use Rattle.std.specs.Prelude.{Bool, true, false, is_some, None}
use Rattle.pyc_assignments.specs.Assignments.{assign_target}
use Rattle.pyc_ast.specs.declared.operator.Operator.{Operator}
use Rattle.pyc_ast.specs.declared.operator.Operator.TheVariants as o
use Rattle.pyc_ast.specs.declared.position.Position.{Position}
use Rattle.pyc_ast.specs.Exprs.{at_of}
use Rattle.pyc_ast.specs.Statements.{AugmentedAssignment}
use Rattle.pyc_ast.specs.Targets.{Target, target}
use Rattle.pyc_body_context.specs.Bodies.{Body}
use Rattle.pyc_body_context.specs.BodyTargets.{body_reads}
use Rattle.pyc_calls.specs.Methods.{infer_method_call}
use Rattle.pyc_class_ids.specs.Class.{Id, builtin, user}
use Rattle.pyc_locals.specs.FlowStates.{FlowState}
use Rattle.pyc_obligations.specs.Asking.{ask_member, is_unknown_class}
use Rattle.pyc_operators.specs.Binary.{binary}
use Rattle.pyc_operators.specs.Operations.{in_place_method}
use Rattle.pyc_reading.specs.Traces.{Step}
use Rattle.pyc_reading.specs.Readings.{Done, ◌>>=◌}
use Rattle.pyc_simple_statements.specs.Expressions.{part_type}
use Rattle.pyc_simple_statements.specs.TargetTypes.{target_type}
use Rattle.pyc_type_forms.specs.Types.{Ty, instance, list}

-- ---- what is changed in place

abbrev pub is_plus : Operator → Bool
is_plus o.Add = true
is_plus _ = false

-- whether a class has the method that an augmented assignment calls on its target
unfoldable pub has_in_place : Id → Operator → Step Bool
has_in_place c operator = do
  found ← ask_member c (in_place_method operator)
  Done (is_some found)

-- by whether the order of the class is unknown
abbrev pub in_place_if_known : Id → Operator → Bool → Step Bool
in_place_if_known c operator true = Done false
in_place_if_known c operator false = has_in_place c operator

unfoldable pub source_in_place : Id → Operator → Step Bool
source_in_place c operator = do
  is_unknown ← is_unknown_class c
  in_place_if_known c operator is_unknown

-- no builtin class is changed in place, but a list
abbrev pub class_in_place : Id → Operator → Step Bool
class_in_place (builtin c) operator = Done false
class_in_place (user m x) operator = source_in_place (user m x) operator

-- whether an augmented assignment changes a target of some type in place: `+=` does a list, and each operator an
-- instance of a class with the operator's method
abbrev pub in_place : Operator → Ty → Step Bool
in_place operator (list item) = Done (is_plus operator)
in_place operator (instance c) = class_in_place c operator
in_place operator _ = Done false

-- ---- the whole

abbrev pub out_of : Target → Position
out_of (target at inside form) = at

-- the types of the target and of the right side
pub record Operands : Type 0 where
  pub left : Ty
  pub right : Ty

-- the type of the operation, which is reported at the target
unfoldable pub operation_type : AugmentedAssignment → Operands → Step Ty
operation_type found operands =
    binary infer_method_call (out_of found.target) found.operator operands.left operands.right

module _ (body : Body) where
  -- the target is read, and then the right side
  unfoldable pub operands_read : AugmentedAssignment → FlowState → Step Operands
  operands_read found p = do
    left ← target_type body p found.target
    right ← part_type body p found.value None
    Done (record { left = left; right = right })

  -- the result of the operation is assigned: it stands where the right side does
  unfoldable pub operation_stored : AugmentedAssignment → Operands → FlowState → Step FlowState
  operation_stored found operands p = do
    ty ← operation_type found operands
    assign_target (body_reads body) (at_of found.value) found.target ty p

  -- by whether the target is changed in place
  abbrev pub stored_unless : AugmentedAssignment → Operands → FlowState → Bool → Step FlowState
  stored_unless found operands p true = Done p
  stored_unless found operands p false = operation_stored found operands p

  -- an augmented assignment
  unfoldable pub augmented_read : AugmentedAssignment → FlowState → Step FlowState
  augmented_read found p = do
    operands ← operands_read found p
    is_in_place ← in_place found.operator operands.left
    stored_unless found operands p is_in_place
