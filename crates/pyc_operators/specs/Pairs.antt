-- An operation on a pair of operands that are no unions (Python language reference 3.13, "Binary arithmetic operations"
-- and "Emulating numeric types").
use Rattle.std.specs.Prelude.{◌||◌, if◌then◌else◌, [], ◌∷◌, Option, None, Some}
use Rattle.pyc_operators.specs.declared.operation.Operation.{Operation}
use Rattle.pyc_operators.specs.declared.table.Given.{Given}
use Rattle.pyc_operators.specs.declared.table.Sort.{Sort}
use Rattle.pyc_operators.specs.Made.{made}
use Rattle.pyc_operators.specs.Methods.{Caller, method_of}
use Rattle.pyc_operators.specs.Operations.{method_name}
use Rattle.pyc_operators.specs.Sorts.{is_any, is_user, operand_sort, sort_of}
use Rattle.pyc_operators.specs.Table.{gives, given_with_user}
use Rattle.pyc_reading.specs.Answers.{MemberAnswer}
use Rattle.pyc_reading.specs.Traces.{Step}
use Rattle.pyc_reading.specs.Readings.{Done, and_then}
use Rattle.pyc_type_forms.specs.Types.{Ty, any}

-- what a method gives that is called with an operand
abbrev pub infer_operator_call : Caller → MemberAnswer → Ty → Step (Option Ty)
infer_operator_call call method operand = call method (operand ∷ [])

-- what an operation gives by the sorts of both operands, where the left one has no method for it
abbrev pub given_by_sorts : Operation → Ty → Ty → Sort → Sort → Given
given_by_sorts operation left right left_sort right_sort =
    if is_user right then given_with_user operation (sort_of left) else gives operation left_sort right_sort

-- what the left operand's method gives, or what is given without one
unfoldable pub infer_by_method : Caller → Given → Ty → Ty → Option MemberAnswer → Step (Option Ty)
infer_by_method call given left right (Some method) = infer_operator_call call method right
infer_by_method call given left right None = Done (made given left right)

-- both operands are of known sorts: Any on the right gives Any
unfoldable pub infer_by_both_sorts : Caller → Operation → Ty → Ty → Sort → Sort → Step (Option Ty)
infer_by_both_sorts call operation left right left_sort right_sort =
    if is_any right_sort then Done (Some any)
    else
    and_then (method_of left (method_name operation)) (λ method.
    infer_by_method call (given_by_sorts operation left right left_sort right_sort) left right method)

-- the left operand is of a known sort: Any gives Any, and nothing is asked of the right one
unfoldable pub infer_by_left_sort : Caller → Operation → Ty → Ty → Sort → Step (Option Ty)
infer_by_left_sort call operation left right left_sort =
    if is_any left_sort then Done (Some any)
    else and_then (operand_sort right) (λ right_sort. infer_by_both_sorts call operation left right left_sort
    right_sort)

-- what an operation on a pair gives; none where there is no such operation. With Any on a side nothing is asked
unfoldable pub infer_pair : Caller → Operation → Ty → Ty → Step (Option Ty)
infer_pair call operation left right =
    if is_any (sort_of left) || is_any (sort_of right) then Done (Some any)
    else and_then (operand_sort left) (λ left_sort. infer_by_left_sort call operation left right left_sort)
