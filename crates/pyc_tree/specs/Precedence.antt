-- How tightly operators bind, from 1 for the loosest to 16 for an atom
-- (Python reference 3.13, "Operator precedence"):
-- 1 lambda and conditional; 2 or; 3 and; 4 not; 5 comparisons; 6 `|`; 7 `^`; 8 `&`; 9 shifts; 10 `+ -`;
-- 11 `* @ / // %`; 12 unary `+ - ~`; 13 `**`; 14 await; 15 calls, attributes, subscripts; 16 atoms.
use Rattle.std.specs.Prelude.{ℕ}
use Rattle.pyc_token.specs.declared.tokens.Arithmetic.{Arithmetic}
use Rattle.pyc_token.specs.declared.tokens.Arithmetic.TheVariants as op
use Rattle.pyc_token.specs.declared.tokens.Bracket.TheVariants as bracket
use Rattle.pyc_token.specs.declared.tokens.Delimiter.TheVariants as delimiter
use Rattle.pyc_token.specs.declared.tokens.Keyword.{Keyword}
use Rattle.pyc_token.specs.declared.tokens.Keyword.TheVariants as word
use Rattle.pyc_token.specs.declared.tokens.Kind.{Kind}
use Rattle.pyc_token.specs.declared.tokens.Kind.TheVariants as kind
use Rattle.pyc_token.specs.declared.tokens.Token.{Token}
use Rattle.pyc_tree.specs.Tree.{Tree}
use Rattle.pyc_tree.specs.Tree as tree

-- the precedence of an operator between two operands
abbrev pub operator_precedence : Arithmetic → ℕ
operator_precedence op.Bar = 6
operator_precedence op.Caret = 7
operator_precedence op.Ampersand = 8
operator_precedence op.LeftShift = 9
operator_precedence op.RightShift = 9
operator_precedence op.Plus = 10
operator_precedence op.Minus = 10
operator_precedence op.Star = 11
operator_precedence op.At = 11
operator_precedence op.Slash = 11
operator_precedence op.DoubleSlash = 11
operator_precedence op.Percent = 11
operator_precedence op.DoubleStar = 13

-- the precedence of an operator's left operand, at least: only `**` groups to the right
abbrev pub operator_left : Arithmetic → ℕ
operator_left op.DoubleStar = 14
operator_left other = operator_precedence other

-- the precedence of an operator's right operand, at least: that of `**` may begin with a sign
abbrev pub operator_right : Arithmetic → ℕ
operator_right op.Bar = 7
operator_right op.Caret = 8
operator_right op.Ampersand = 9
operator_right op.LeftShift = 10
operator_right op.RightShift = 10
operator_right op.Plus = 11
operator_right op.Minus = 11
operator_right op.Star = 12
operator_right op.At = 12
operator_right op.Slash = 12
operator_right op.DoubleSlash = 12
operator_right op.Percent = 12
operator_right op.DoubleStar = 12

-- the precedence of what a word makes with an expression before it, 0 where it makes nothing
abbrev pub word_precedence : Keyword → ℕ
word_precedence word.If = 1
word_precedence word.Or = 2
word_precedence word.And = 3
word_precedence word.In = 5
word_precedence word.Is = 5
word_precedence word.Not = 5
word_precedence _ = 0

-- the precedence of what a token makes with an expression before it, 0 where it makes nothing
abbrev pub infix_precedence : Kind → ℕ
infix_precedence (kind.Keyword w) = word_precedence w
infix_precedence (kind.Arithmetic o) = operator_precedence o
infix_precedence (kind.Comparison _) = 5
infix_precedence (kind.Open bracket.Round) = 15
infix_precedence (kind.Open bracket.Square) = 15
infix_precedence (kind.Delimiter delimiter.Dot) = 15
infix_precedence _ = 0

-- the precedence of the expression before such a word, at least
abbrev pub word_left : Keyword → ℕ
word_left word.If = 2
word_left word.Or = 2
word_left word.And = 3
word_left word.In = 6
word_left word.Is = 6
word_left word.Not = 6
word_left _ = 0

-- the precedence of the expression before such a token, at least
abbrev pub left_precedence : Kind → ℕ
left_precedence (kind.Keyword w) = word_left w
left_precedence (kind.Arithmetic o) = operator_left o
left_precedence (kind.Comparison _) = 6
left_precedence (kind.Open bracket.Round) = 15
left_precedence (kind.Open bracket.Square) = 15
left_precedence (kind.Delimiter delimiter.Dot) = 15
left_precedence _ = 0

-- the precedence of the expression after an operator between two operands, at least, 0 where it is none
abbrev pub right_precedence : Kind → ℕ
right_precedence (kind.Keyword word.Or) = 3
right_precedence (kind.Keyword word.And) = 4
right_precedence (kind.Arithmetic o) = operator_right o
right_precedence _ = 0

-- the precedence of what an operator makes before its operand, and of that operand at least; 0 where it is none
abbrev pub prefix_precedence : Kind → ℕ
prefix_precedence (kind.Keyword word.Not) = 4
prefix_precedence (kind.Arithmetic op.Plus) = 12
prefix_precedence (kind.Arithmetic op.Minus) = 12
prefix_precedence (kind.Delimiter delimiter.Tilde) = 12
prefix_precedence _ = 0

-- the precedence at which a tree stands, 0 for what stands in some places alone
abbrev pub precedence : Tree → ℕ
precedence (tree.name _) = 16
precedence (tree.number _) = 16
precedence (tree.constant _) = 16
precedence (tree.strings _ _) = 16
precedence (tree.parenthesized _ _ _) = 16
precedence (tree.display _ _ _ _) = 16
precedence (tree.comprehension_display _ _ _ _ _) = 16
precedence (tree.attribute _ _ _) = 15
precedence (tree.call _ _ _ _) = 15
precedence (tree.subscript _ _ _ _) = 15
precedence (tree.await _ _) = 14
precedence (tree.unary sign _) = prefix_precedence sign.kind
precedence (tree.binary _ sign _) = infix_precedence sign.kind
precedence (tree.compare _ _) = 5
precedence (tree.conditional _ _ _ _ _) = 1
precedence (tree.lambda _ _ _ _) = 1
precedence _ = 0
