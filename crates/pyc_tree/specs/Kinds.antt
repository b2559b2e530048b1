-- Tests of the kinds of tokens.
use Rattle.std.specs.Prelude.{◌≡◌, ℕ, Bool, true, false, ◌||◌, ◌==◌, List, [], ◌∷◌}
use denote.Enum.Bare.{sameb}
use Rattle.pyc_token.specs.declared.tokens.Arithmetic.TheVariants as op
use Rattle.pyc_token.specs.declared.tokens.Bracket.TheVariants as bracket
use Rattle.pyc_token.specs.declared.tokens.Delimiter.TheVariants as delimiter
use Rattle.pyc_token.specs.declared.tokens.Keyword.{Keyword}
use Rattle.pyc_token.specs.declared.tokens.Keyword.TheVariants as word
use Rattle.pyc_token.specs.declared.tokens.Kind.{Kind}
use Rattle.pyc_token.specs.declared.tokens.Kind.TheVariants as kind
use Rattle.pyc_token.specs.declared.tokens.Token.{Token}
use Rattle.pyc_token.specs.contracts.tokens.Word.{the_type as word_type}
use Rattle.pyc_token.specs.contracts.tokens.Keyword.{the_type as keyword_type}
use Rattle.pyc_token.specs.contracts.tokens.Number.{the_type as number_type}
use Rattle.pyc_token.specs.contracts.tokens.Prefix.{the_type as prefix_type}
use Rattle.pyc_token.specs.contracts.tokens.Arithmetic.{the_type as arithmetic_type}
use Rattle.pyc_token.specs.contracts.tokens.Comparison.{the_type as comparison_type}
use Rattle.pyc_token.specs.contracts.tokens.Bracket.{the_type as bracket_type}
use Rattle.pyc_token.specs.contracts.tokens.Delimiter.{the_type as delimiter_type}

-- whether two kinds are one
unfoldable pub same_kind : Kind → Kind → Bool
same_kind (kind.Name a) (kind.Name b) = sameb word_type a b
same_kind (kind.Keyword a) (kind.Keyword b) = sameb keyword_type a b
same_kind (kind.Number a) (kind.Number b) = sameb number_type a b
same_kind (kind.String a) (kind.String b) = sameb prefix_type a b
same_kind (kind.Arithmetic a) (kind.Arithmetic b) = sameb arithmetic_type a b
same_kind (kind.Augmented a) (kind.Augmented b) = sameb arithmetic_type a b
same_kind (kind.Comparison a) (kind.Comparison b) = sameb comparison_type a b
same_kind (kind.Open a) (kind.Open b) = sameb bracket_type a b
same_kind (kind.Close a) (kind.Close b) = sameb bracket_type a b
same_kind (kind.Delimiter a) (kind.Delimiter b) = sameb delimiter_type a b
same_kind _ _ = false

-- the end of a line ends a statement as a semicolon does
abbrev pub end_of_line : Kind
end_of_line = kind.Delimiter delimiter.Semicolon

-- the kind of the next token
abbrev pub kind_of : List Token → Kind
kind_of [] = end_of_line
kind_of (token ∷ tokens) = token.kind

-- whether a token may begin an expression: an atom, a sign, `~`, `not`, `await` or `lambda`
abbrev pub begins_expression : Kind → Bool
begins_expression (kind.Name _) = true
begins_expression (kind.Number _) = true
begins_expression (kind.String _) = true
begins_expression (kind.Open _) = true
begins_expression (kind.Keyword word.False) = true
begins_expression (kind.Keyword word.None) = true
begins_expression (kind.Keyword word.True) = true
begins_expression (kind.Keyword word.Not) = true
begins_expression (kind.Keyword word.Await) = true
begins_expression (kind.Keyword word.Lambda) = true
begins_expression (kind.Arithmetic op.Plus) = true
begins_expression (kind.Arithmetic op.Minus) = true
begins_expression (kind.Delimiter delimiter.Tilde) = true
begins_expression (kind.Delimiter delimiter.Ellipsis) = true
begins_expression _ = false

-- whether a token begins a clause of a comprehension
abbrev pub begins_comprehension : Kind → Bool
begins_comprehension (kind.Keyword word.For) = true
begins_comprehension (kind.Keyword word.Async) = true
begins_comprehension _ = false

-- whether a token compares what stands before it, perhaps as the first word of two
abbrev pub is_comparison : Kind → Bool
is_comparison (kind.Comparison _) = true
is_comparison (kind.Keyword word.In) = true
is_comparison (kind.Keyword word.Is) = true
is_comparison (kind.Keyword word.Not) = true
is_comparison _ = false

-- whether a token is an identifier
abbrev pub is_name : Kind → Bool
is_name (kind.Name _) = true
is_name _ = false

-- whether a token is a number
abbrev pub is_number : Kind → Bool
is_number (kind.Number _) = true
is_number _ = false

-- whether a token is a string literal
abbrev pub is_string : Kind → Bool
is_string (kind.String _) = true
is_string _ = false

-- whether a token is a constant
abbrev pub is_constant : Kind → Bool
is_constant (kind.Keyword word.False) = true
is_constant (kind.Keyword word.None) = true
is_constant (kind.Keyword word.True) = true
is_constant (kind.Delimiter delimiter.Ellipsis) = true
is_constant _ = false
