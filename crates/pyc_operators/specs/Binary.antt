-- Binary operations and comparisons (Python language reference 3.13, "Binary arithmetic operations", "Comparisons").
use Rattle.std.specs.Prelude.{if◌then◌else◌, Option, None, Some}
use Rattle.pyc_ast.specs.declared.operator.ComparisonOperator.{ComparisonOperator}
use Rattle.pyc_ast.specs.declared.operator.Operator.{Operator}
use Rattle.pyc_ast.specs.declared.position.Position.{Position}
use Rattle.pyc_operators.specs.declared.operation.Operation.{Operation}
use Rattle.pyc_operators.specs.declared.operation.Operation.TheVariants as operation
use Rattle.pyc_operators.specs.declared.operation.OrderComparison.{OrderComparison}
use Rattle.pyc_operators.specs.Messages.{wrong_operands}
use Rattle.pyc_operators.specs.Methods.{Caller}
use Rattle.pyc_operators.specs.Operations.{order_comparison}
use Rattle.pyc_operators.specs.Results.{Results, no_results, pairs_of}
use Rattle.pyc_reading.specs.Traces.{Step}
use Rattle.pyc_reading.specs.Readings.{Done, and_then}
use Rattle.pyc_type_forms.specs.Types.{Ty}
use Rattle.pyc_type_forms.specs.Unions.{items_of, union_of}

-- the union of what the pairs give; one pair that gives nothing fails the whole, which is reported once
unfoldable pub finish_union : Position → Operation → Ty → Ty → Results → Step Ty
finish_union at operation left right results =
    if results.is_failed then wrong_operands at operation left right else Done (union_of results.types)

-- what an operation gives on each item of the one operand and each of the other
abbrev pub pairs : Caller → Operation → Ty → Ty → Step Results
pairs call operation left right = pairs_of call operation no_results (items_of left) (items_of right)

-- the type of an operation
unfoldable pub infer_operation : Caller → Position → Operation → Ty → Ty → Step Ty
infer_operation call at operation left right =
    and_then (pairs call operation left right) (λ results. finish_union at operation left right results)

-- the type of a binary operation
abbrev pub binary : Caller → Position → Operator → Ty → Ty → Step Ty
binary call at operator left right = infer_operation call at (operation.Arithmetic operator) left right

-- a comparison in order is an operation, whose type nothing goes by
unfoldable pub compare_in_order : Caller → Position → OrderComparison → Ty → Ty → Step (Unit {0})
compare_in_order call at comparison left right =
    and_then (infer_operation call at (operation.Mro comparison) left right) (λ ty. Done tt)

abbrev pub check_if_ordered : Caller → Position → Option OrderComparison → Ty → Ty → Step (Unit {0})
check_if_ordered call at (Some comparison) left right = compare_in_order call at comparison left right
check_if_ordered call at None left right = Done tt

-- two neighbours in a chain of comparisons: of one that is not in order nothing is asked or reported
abbrev pub check_comparison : Caller → Position → ComparisonOperator → Ty → Ty → Step (Unit {0})
check_comparison call at operator left right = check_if_ordered call at (order_comparison operator) left right
