-- The operators that tokens spell (Python reference 3.13, "Operators").
use Rattle.std.specs.Prelude.{Bool, true, false}
use Rattle.pyc_ast.specs.declared.operator.ComparisonOperator.{ComparisonOperator}
use Rattle.pyc_ast.specs.declared.operator.ComparisonOperator.TheVariants as compared
use Rattle.pyc_ast.specs.declared.operator.Operator.{Operator}
use Rattle.pyc_ast.specs.declared.operator.Operator.TheVariants as op
use Rattle.pyc_ast.specs.declared.operator.UnaryOperator.{UnaryOperator}
use Rattle.pyc_ast.specs.declared.operator.UnaryOperator.TheVariants as unary
use Rattle.pyc_ast.specs.Exprs.{Expr, Form, binary, boolean}
use Rattle.pyc_ast.specs.declared.operator.BooleanOperator.TheVariants.{And, Or}
use Rattle.pyc_token.specs.declared.tokens.Arithmetic.{Arithmetic}
use Rattle.pyc_token.specs.declared.tokens.Arithmetic.TheVariants as sign
use Rattle.pyc_token.specs.declared.tokens.Comparison.{Comparison}
use Rattle.pyc_token.specs.declared.tokens.Comparison.TheVariants as than
use Rattle.pyc_token.specs.declared.tokens.Delimiter.TheVariants as delimiter
use Rattle.pyc_token.specs.declared.tokens.Keyword.TheVariants as word
use Rattle.pyc_token.specs.declared.tokens.Kind.{Kind}
use Rattle.pyc_token.specs.declared.tokens.Kind.TheVariants as kind

abbrev pub arithmetic : Arithmetic → Operator
arithmetic sign.Plus = op.Add
arithmetic sign.Minus = op.Sub
arithmetic sign.Star = op.Mult
arithmetic sign.Slash = op.Div
arithmetic sign.DoubleSlash = op.FloorDiv
arithmetic sign.Percent = op.Mod
arithmetic sign.At = op.MatMult
arithmetic sign.Ampersand = op.BitAnd
arithmetic sign.Bar = op.BitOr
arithmetic sign.Caret = op.BitXor
arithmetic sign.LeftShift = op.LShift
arithmetic sign.RightShift = op.RShift
arithmetic sign.DoubleStar = op.Pow

-- the operator of an augmented assignment; no other token is one
abbrev pub augmented_operator : Kind → Operator
augmented_operator (kind.Augmented o) = arithmetic o
augmented_operator _ = op.Add

-- `not`, `-` and `~`; no other token but `+` stands before an operand
abbrev pub unary_operator : Kind → UnaryOperator
unary_operator (kind.Keyword word.Not) = unary.Not
unary_operator (kind.Arithmetic sign.Minus) = unary.USub
unary_operator (kind.Delimiter delimiter.Tilde) = unary.Invert
unary_operator _ = unary.UAdd

-- an operator between two operands; no other token stands there
abbrev pub operation : Kind → Expr → Expr → Form
operation (kind.Keyword word.And) left right = boolean And left right
operation (kind.Keyword word.Or) left right = boolean Or left right
operation (kind.Arithmetic o) left right = binary (arithmetic o) left right
operation _ left right = binary op.Add left right

abbrev pub than_operator : Comparison → ComparisonOperator
than_operator than.Less = compared.Lt
than_operator than.Greater = compared.Gt
than_operator than.LessEqual = compared.LtE
than_operator than.GreaterEqual = compared.GtE
than_operator than.Equal = compared.Eq
than_operator than.NotEqual = compared.NotEq

-- the operator of a comparison by its first word, and whether it has a second; no other token compares
abbrev pub comparison_operator : Kind → Bool → ComparisonOperator
comparison_operator (kind.Comparison o) _ = than_operator o
comparison_operator (kind.Keyword word.In) _ = compared.In
comparison_operator (kind.Keyword word.Not) _ = compared.NotIn
comparison_operator (kind.Keyword word.Is) true = compared.IsNot
comparison_operator (kind.Keyword word.Is) false = compared.Is
comparison_operator _ _ = compared.Eq
