-- Unary operations (Python language reference 3.13, "Unary arithmetic and bitwise operations", "Boolean operations").
use Rattle.std.specs.Prelude.{List, [], ◌∷◌, if◌then◌else◌, Option, None, Some}
use Rattle.pyc_ast.specs.declared.operator.UnaryOperator.{UnaryOperator}
use Rattle.pyc_ast.specs.declared.position.Position.{Position}
use Rattle.pyc_class_ids.specs.declared.builtin_class.BuiltinClass.TheVariants as class
use Rattle.pyc_class_ids.specs.Class.{builtin}
use Rattle.pyc_operators.specs.declared.operation.UnaryOperation.{UnaryOperation}
use Rattle.pyc_operators.specs.declared.table.Sort.{Sort}
use Rattle.pyc_operators.specs.Made.{made}
use Rattle.pyc_operators.specs.Messages.{wrong_operand}
use Rattle.pyc_operators.specs.Methods.{Caller, method_of}
use Rattle.pyc_operators.specs.Operations.{unary_method, unary_operation}
use Rattle.pyc_operators.specs.Results.{Results, no_results, with_result}
use Rattle.pyc_operators.specs.Sorts.{is_any, operand_sort}
use Rattle.pyc_operators.specs.Table.{unary_given}
use Rattle.pyc_reading.specs.Answers.{MemberAnswer}
use Rattle.pyc_reading.specs.Traces.{Step}
use Rattle.pyc_reading.specs.Readings.{Done, and_then}
use Rattle.pyc_type_forms.specs.Types.{Ty, any, instance}
use Rattle.pyc_type_forms.specs.Unions.{items_of, union_of}

-- ---- one item

-- what the operand's method gives, or what is given without one
unfoldable pub infer_by_method : Caller → UnaryOperation → Ty → Sort → Option MemberAnswer → Step (Option Ty)
infer_by_method call operation operand sort (Some method) = call method []
infer_by_method call operation operand sort None = Done (made (unary_given operation sort) operand operand)

-- the operand is of a known sort: Any gives Any
unfoldable pub infer_by_sort : Caller → UnaryOperation → Ty → Sort → Step (Option Ty)
infer_by_sort call operation operand sort =
    if is_any sort then Done (Some any)
    else
    and_then (method_of operand (unary_method operation)) (λ method. infer_by_method call operation operand sort method)

-- what a unary operation gives on an operand that is no union; none where there is no such operation
unfoldable pub one_item : Caller → UnaryOperation → Ty → Step (Option Ty)
one_item call operation operand =
    and_then (operand_sort operand) (λ sort. infer_by_sort call operation operand sort)

-- ---- all items

-- what a unary operation gives on each of these operands: every one is read, also after one failed
unfoldable pub each_item : Caller → UnaryOperation → Results → List Ty → Step Results
each_item call operation before [] = Done before
each_item call operation before (operand ∷ operands) =
    and_then (one_item call operation operand) (λ found. each_item call operation (with_result before found) operands)

-- what it gives on each item of its operand
abbrev pub items : Caller → UnaryOperation → Ty → Step Results
items call operation operand = each_item call operation no_results (items_of operand)

-- the union of what the items give; one that gives nothing fails the whole, which is reported once
unfoldable pub finish_union : Position → UnaryOperation → Ty → Results → Step Ty
finish_union at operation operand results =
    if results.is_failed then wrong_operand at operation operand else Done (union_of results.types)

-- the type of a unary operation
unfoldable pub infer_operation : Caller → Position → UnaryOperation → Ty → Step Ty
infer_operation call at operation operand =
    and_then (items call operation operand) (λ results. finish_union at operation operand results)

abbrev pub unary_by : Caller → Position → Option UnaryOperation → Ty → Step Ty
unary_by call at (Some operation) operand = infer_operation call at operation operand
unary_by call at None operand = Done (instance (builtin class.Bool))

-- the type of a unary operator with its operand: `not` is bool, and asks and reports nothing
abbrev pub unary : Caller → Position → UnaryOperator → Ty → Step Ty
unary call at operator operand = unary_by call at (unary_operation operator) operand
