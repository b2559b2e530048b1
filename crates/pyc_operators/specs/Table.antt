-- What operations on builtin types give, row by row (Python language reference 3.13, "Binary arithmetic operations",
-- "Shifting operations", "Binary bitwise operations", "Comparisons", "Unary arithmetic and bitwise operations").
use Rattle.std.specs.Prelude.{Bool, true, false, ◌&&◌, if◌then◌else◌}
use Rattle.pyc_ast.specs.declared.operator.Operator.{Operator}
use Rattle.pyc_ast.specs.declared.operator.Operator.TheVariants as o
use Rattle.pyc_operators.specs.declared.operation.Operation.{Operation}
use Rattle.pyc_operators.specs.declared.operation.Operation.TheVariants as operation
use Rattle.pyc_operators.specs.declared.operation.UnaryOperation.{UnaryOperation}
use Rattle.pyc_operators.specs.declared.operation.UnaryOperation.TheVariants as unary
use Rattle.pyc_operators.specs.declared.table.Given.{Given}
use Rattle.pyc_operators.specs.declared.table.Given.TheVariants as g
use Rattle.pyc_operators.specs.declared.table.Sort.{Sort}
use Rattle.pyc_operators.specs.declared.table.Sort.TheVariants as s

-- ---- sorts

-- bool or int
abbrev pub is_whole : Sort → Bool
is_whole s.Bool = true
is_whole s.Int = true
is_whole _ = false

-- a number: bool, int or float
abbrev pub is_number : Sort → Bool
is_number s.Bool = true
is_number s.Int = true
is_number s.Float = true
is_number _ = false

-- a tuple
abbrev pub is_tuple : Sort → Bool
is_tuple s.Tuple = true
is_tuple s.TupleOf = true
is_tuple _ = false

-- what stands for a type in a union of types: a class object, or None
abbrev pub is_type : Sort → Bool
is_type s.Class = true
is_type s.None = true
is_type _ = false

-- ---- two of bool and int

-- `& | ^`: of two bools bool, else int
abbrev pub of_bits : Sort → Sort → Given
of_bits s.Bool s.Bool = g.Bool
of_bits _ _ = g.Int

abbrev pub of_whole : Operator → Sort → Sort → Given
of_whole o.Add left right = g.Int
of_whole o.Sub left right = g.Int
of_whole o.Mult left right = g.Int
of_whole o.FloorDiv left right = g.Int
of_whole o.Mod left right = g.Int
of_whole o.Div left right = g.Float
of_whole o.LShift left right = g.Int
of_whole o.RShift left right = g.Int
of_whole o.BitAnd left right = of_bits left right
of_whole o.BitOr left right = of_bits left right
of_whole o.BitXor left right = of_bits left right
of_whole o.Pow left right = g.Any
of_whole o.MatMult left right = g.Nothing

-- ---- two numbers, one of them a float

abbrev pub of_numbers : Operator → Given
of_numbers o.Add = g.Float
of_numbers o.Sub = g.Float
of_numbers o.Mult = g.Float
of_numbers o.Div = g.Float
of_numbers o.FloorDiv = g.Float
of_numbers o.Mod = g.Float
of_numbers o.Pow = g.Any
of_numbers _ = g.Nothing

-- ---- operands that are not both numbers

-- `+`, where the lengths of tuples are not known
abbrev pub added_tuples : Sort → Sort → Given
added_tuples left right = if is_tuple left && is_tuple right then g.AnyTuple else g.Nothing

-- `+`
abbrev pub added : Sort → Sort → Given
added s.Str s.Str = g.Str
added s.Bytes s.Bytes = g.Bytes
added s.List s.List = g.Lists
added s.Tuple s.Tuple = g.Tuples
added left right = added_tuples left right

-- `%`, with anything on the right
abbrev pub formatted : Sort → Given
formatted s.Str = g.Str
formatted s.Bytes = g.Bytes
formatted _ = g.Nothing

-- a tuple times bool or int: times int alone
abbrev pub repeated_tuple : Sort → Given
repeated_tuple s.Int = g.AnyTuple
repeated_tuple _ = g.Nothing

-- `*`, with bool or int on the right
abbrev pub repeated : Sort → Sort → Given
repeated s.Str right = g.Str
repeated s.Bytes right = g.Bytes
repeated s.List right = g.Left
repeated s.Tuple right = repeated_tuple right
repeated s.TupleOf right = repeated_tuple right
repeated _ right = g.Nothing

-- `*`, with bool or int on the left
abbrev pub repeated_right : Sort → Given
repeated_right s.Str = g.Str
repeated_right s.Bytes = g.Bytes
repeated_right s.List = g.Right
repeated_right _ = g.Nothing

-- `*`
abbrev pub multiplied : Sort → Sort → Given
multiplied left right =
    if is_whole right then repeated left right
    else if is_whole left then repeated_right right
    else g.Nothing

-- `|` of what stands for types
abbrev pub types_joined : Sort → Sort → Given
types_joined left right = if is_type left && is_type right then g.Any else g.Nothing

-- `|`
abbrev pub alternatives : Sort → Sort → Given
alternatives s.Dict s.Dict = g.Dicts
alternatives left right = types_joined left right

abbrev pub of_others : Operator → Sort → Sort → Given
of_others o.Add left right = added left right
of_others o.Mod left right = formatted left
of_others o.Mult left right = multiplied left right
of_others o.BitOr left right = alternatives left right
of_others _ left right = g.Nothing

-- ---- comparisons in order

abbrev pub compare_tuples : Sort → Sort → Given
compare_tuples left right = if is_tuple left && is_tuple right then g.Bool else g.Nothing

abbrev pub compare_others : Sort → Sort → Given
compare_others s.Str s.Str = g.Bool
compare_others s.Bytes s.Bytes = g.Bool
compare_others s.List s.List = g.Bool
compare_others left right = compare_tuples left right

abbrev pub compare_in_order : Sort → Sort → Given
compare_in_order left right = if is_number left && is_number right then g.Bool else compare_others left right

-- ---- the table

abbrev pub arithmetic : Operator → Sort → Sort → Given
arithmetic operator left right =
    if is_whole left && is_whole right then of_whole operator left right
    else if is_number left && is_number right then of_numbers operator
    else of_others operator left right

-- what an operation on two operands gives
abbrev pub gives : Operation → Sort → Sort → Given
gives (operation.Arithmetic operator) left right = arithmetic operator left right
gives (operation.Mro comparison) left right = compare_in_order left right

-- `%`, with an instance of a user's class on the right
abbrev pub formatted_with_user : Sort → Given
formatted_with_user s.Str = g.Str
formatted_with_user s.Bytes = g.Bytes
formatted_with_user _ = g.Any

-- what an operation gives where the right operand is an instance of a user's class, and the left one, of this sort, has
-- no method for it
abbrev pub given_with_user : Operation → Sort → Given
given_with_user (operation.Arithmetic o.Mod) left = formatted_with_user left
given_with_user _ left = g.Any

-- ---- unary operations

-- on a float: `+` and `-` alone
abbrev pub of_float : UnaryOperation → Given
of_float unary.Plus = g.Float
of_float unary.Minus = g.Float
of_float unary.Invert = g.Nothing

abbrev pub unary_given : UnaryOperation → Sort → Given
unary_given operation s.Bool = g.Int
unary_given operation s.Int = g.Int
unary_given operation s.Float = of_float operation
unary_given operation _ = g.Nothing
