-- Operations, how each is written, and the methods that they call (Python language reference 3.13, "Expressions" and
-- "Emulating numeric types").
use Rattle.std.specs.Prelude.{ℕ, List, codes, Option, None, Some}
use Rattle.pyc_ast.specs.declared.operator.ComparisonOperator.{ComparisonOperator}
use Rattle.pyc_ast.specs.declared.operator.ComparisonOperator.TheVariants as comparison
use Rattle.pyc_ast.specs.declared.operator.Operator.{Operator}
use Rattle.pyc_ast.specs.declared.operator.Operator.TheVariants as o
use Rattle.pyc_ast.specs.declared.operator.UnaryOperator.{UnaryOperator}
use Rattle.pyc_ast.specs.declared.operator.UnaryOperator.TheVariants as u
use Rattle.pyc_operators.specs.declared.operation.Operation.{Operation}
use Rattle.pyc_operators.specs.declared.operation.Operation.TheVariants as operation
use Rattle.pyc_operators.specs.declared.operation.OrderComparison.{OrderComparison}
use Rattle.pyc_operators.specs.declared.operation.OrderComparison.TheVariants as c
use Rattle.pyc_operators.specs.declared.operation.UnaryOperation.{UnaryOperation}
use Rattle.pyc_operators.specs.declared.operation.UnaryOperation.TheVariants as unary

-- the comparison in order that a comparison is, if it is one
abbrev pub order_comparison : ComparisonOperator → Option OrderComparison
order_comparison comparison.Lt = Some c.Lt
order_comparison comparison.Gt = Some c.Gt
order_comparison comparison.LtE = Some c.LtE
order_comparison comparison.GtE = Some c.GtE
order_comparison _ = None

-- how an operator is written
abbrev pub operator_symbol : Operator → List ℕ
operator_symbol o.Add = codes "+"
operator_symbol o.Sub = codes "-"
operator_symbol o.Mult = codes "*"
operator_symbol o.MatMult = codes "@"
operator_symbol o.Div = codes "/"
operator_symbol o.FloorDiv = codes "//"
operator_symbol o.Mod = codes "%"
operator_symbol o.Pow = codes "**"
operator_symbol o.LShift = codes "<<"
operator_symbol o.RShift = codes ">>"
operator_symbol o.BitAnd = codes "&"
operator_symbol o.BitOr = codes "|"
operator_symbol o.BitXor = codes "^"

-- how a comparison in order is written
abbrev pub comparison_symbol : OrderComparison → List ℕ
comparison_symbol c.Lt = codes "<"
comparison_symbol c.Gt = codes ">"
comparison_symbol c.LtE = codes "<="
comparison_symbol c.GtE = codes ">="

-- how an operation is written
abbrev pub symbol : Operation → List ℕ
symbol (operation.Arithmetic operator) = operator_symbol operator
symbol (operation.Mro check_comparison) = comparison_symbol check_comparison

-- the method that an operator calls on its left operand
abbrev pub operator_method : Operator → List ℕ
operator_method o.Add = codes "__add__"
operator_method o.Sub = codes "__sub__"
operator_method o.Mult = codes "__mul__"
operator_method o.MatMult = codes "__matmul__"
operator_method o.Div = codes "__truediv__"
operator_method o.FloorDiv = codes "__floordiv__"
operator_method o.Mod = codes "__mod__"
operator_method o.Pow = codes "__pow__"
operator_method o.LShift = codes "__lshift__"
operator_method o.RShift = codes "__rshift__"
operator_method o.BitAnd = codes "__and__"
operator_method o.BitOr = codes "__or__"
operator_method o.BitXor = codes "__xor__"

-- the method that a comparison in order calls on its left operand
abbrev pub comparison_method : OrderComparison → List ℕ
comparison_method c.Lt = codes "__lt__"
comparison_method c.Gt = codes "__gt__"
comparison_method c.LtE = codes "__le__"
comparison_method c.GtE = codes "__ge__"

-- the method that an operation calls on its left operand
abbrev pub method_name : Operation → List ℕ
method_name (operation.Arithmetic operator) = operator_method operator
method_name (operation.Mro check_comparison) = comparison_method check_comparison

-- the method that an augmented assignment calls on its target, where the target has one
abbrev pub in_place_method : Operator → List ℕ
in_place_method o.Add = codes "__iadd__"
in_place_method o.Sub = codes "__isub__"
in_place_method o.Mult = codes "__imul__"
in_place_method o.MatMult = codes "__imatmul__"
in_place_method o.Div = codes "__itruediv__"
in_place_method o.FloorDiv = codes "__ifloordiv__"
in_place_method o.Mod = codes "__imod__"
in_place_method o.Pow = codes "__ipow__"
in_place_method o.LShift = codes "__ilshift__"
in_place_method o.RShift = codes "__irshift__"
in_place_method o.BitAnd = codes "__iand__"
in_place_method o.BitOr = codes "__ior__"
in_place_method o.BitXor = codes "__ixor__"

-- the unary operation that a unary operator is; `not` is none
abbrev pub unary_operation : UnaryOperator → Option UnaryOperation
unary_operation u.UAdd = Some unary.Plus
unary_operation u.USub = Some unary.Minus
unary_operation u.Invert = Some unary.Invert
unary_operation u.Not = None

-- how a unary operation is written
abbrev pub unary_symbol : UnaryOperation → List ℕ
unary_symbol unary.Plus = codes "+"
unary_symbol unary.Minus = codes "-"
unary_symbol unary.Invert = codes "~"

-- the method that a unary operation calls on its operand
abbrev pub unary_method : UnaryOperation → List ℕ
unary_method unary.Plus = codes "__pos__"
unary_method unary.Minus = codes "__neg__"
unary_method unary.Invert = codes "__invert__"
