-- Operators with their operands, and chains of comparisons (Python reference 3.13, "Unary arithmetic and bitwise
-- operations", "Binary arithmetic operations", "Comparisons").
use Rattle.std.specs.Prelude.{None}
use Rattle.pyc_ast.specs.declared.operator.Operator.{Operator}
use Rattle.pyc_ast.specs.declared.operator.UnaryOperator.{UnaryOperator}
use Rattle.pyc_ast.specs.declared.position.Position.{Position}
use Rattle.pyc_ast.specs.Exprs.{Expr, Comparison, comparison, Comparisons, no_comparison, another_comparison}
use Rattle.pyc_calls.specs.Methods.{infer_method_call}
use Rattle.pyc_expr_forms.specs.Contexts.{InferValue, type_in}
use Rattle.pyc_expr_forms.specs.Names.{bool_type}
use Rattle.pyc_operators.specs.Binary.{binary, check_comparison}
use Rattle.pyc_operators.specs.Unary.{unary}
use Rattle.pyc_places.specs.States.{State}
use Rattle.pyc_reading.specs.Traces.{Step}
use Rattle.pyc_reading.specs.Readings.{Done, and_then}
use Rattle.pyc_type_forms.specs.Types.{Ty}

unfoldable pub unary_type : InferValue → State → Position → UnaryOperator → Expr → Step Ty
unary_type parts s at operator x = and_then (type_in parts s x None) (unary infer_method_call at operator)

-- an operation whose left operand was read
unfoldable pub infer_with_right : InferValue → State → Position → Operator → Expr → Ty → Step Ty
infer_with_right parts s at operator y left = and_then (type_in parts s y None)
    (binary infer_method_call at operator left)

unfoldable pub binary_type : InferValue → State → Position → Operator → (left right : Expr) → Step Ty
binary_type parts s at operator x y = and_then (type_in parts s x None) (infer_with_right parts s at operator y)

-- ---- comparisons

-- what stands left in a comparison was read: what stands right in it is read, and stands left in the next
unfoldable pub infer_comparison : InferValue → State → Position → Ty → Comparison → Step Ty
infer_comparison parts s at left (comparison operator y) =
    and_then (type_in parts s y None) (λ right.
    and_then (check_comparison infer_method_call at operator left right) (λ u. Done right))

-- a chain of comparisons, in turn
unfoldable pub infer_comparisons : InferValue → State → Position → Ty → Comparisons → Step Ty
infer_comparisons parts s at left no_comparison = Done left
infer_comparisons parts s at left (another_comparison x xs) =
    and_then (infer_comparison parts s at left x) (λ right. infer_comparisons parts s at right xs)

-- a chain of comparisons, whose first operand was read
unfoldable pub chain_type : InferValue → State → Position → Comparisons → Ty → Step Ty
chain_type parts s at rest left = and_then (infer_comparisons parts s at left rest) (λ last. Done bool_type)

unfoldable pub compare_type : InferValue → State → Position → Expr → Comparisons → Step Ty
compare_type parts s at x rest = and_then (type_in parts s x None) (chain_type parts s at rest)
