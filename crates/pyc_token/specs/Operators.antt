-- Operators and delimiters (Python reference, lexical analysis, "Operators" and "Delimiters").
use Rattle.std.specs.Prelude.{ℕ, nat_eq, if◌then◌else◌, List, [], ◌∷◌, length, codes, Option, None, Some}
use Rattle.std.specs.List.{starts_with}
use Rattle.pyc_token.specs.declared.tokens.Arithmetic.TheVariants.{Plus, Minus, Star, Slash, DoubleSlash, Percent, At}
use Rattle.pyc_token.specs.declared.tokens.Arithmetic.TheVariants.{Ampersand, Bar, Caret, LeftShift, RightShift}
use Rattle.pyc_token.specs.declared.tokens.Arithmetic.TheVariants.{DoubleStar}
use Rattle.pyc_token.specs.declared.tokens.Comparison.TheVariants as comparison
use Rattle.pyc_token.specs.declared.tokens.Bracket.TheVariants.{Round, Square, Curly}
use Rattle.pyc_token.specs.declared.tokens.Delimiter.TheVariants as delimiter
use Rattle.pyc_token.specs.declared.tokens.Kind.{Kind}
use Rattle.pyc_token.specs.declared.tokens.Kind.TheVariants.{Arithmetic, Augmented, Comparison, Open, Close, Delimiter}

-- each operator with its spelling, longest first
unfoldable pub operators : List (List ℕ × Kind)
operators =
    (codes "**=", Augmented DoubleStar) ∷
    (codes "//=", Augmented DoubleSlash) ∷
    (codes ">>=", Augmented RightShift) ∷
    (codes "<<=", Augmented LeftShift) ∷
    (codes "...", Delimiter delimiter.Ellipsis) ∷
    (codes "->", Delimiter delimiter.Arrow) ∷
    (codes ":=", Delimiter delimiter.ColonEqual) ∷
    (codes "**", Arithmetic DoubleStar) ∷
    (codes "//", Arithmetic DoubleSlash) ∷
    (codes "<<", Arithmetic LeftShift) ∷
    (codes ">>", Arithmetic RightShift) ∷
    (codes "<=", Comparison comparison.LessEqual) ∷
    (codes ">=", Comparison comparison.GreaterEqual) ∷
    (codes "==", Comparison comparison.Equal) ∷
    (codes "!=", Comparison comparison.NotEqual) ∷
    (codes "+=", Augmented Plus) ∷
    (codes "-=", Augmented Minus) ∷
    (codes "*=", Augmented Star) ∷
    (codes "/=", Augmented Slash) ∷
    (codes "%=", Augmented Percent) ∷
    (codes "@=", Augmented At) ∷
    (codes "&=", Augmented Ampersand) ∷
    (codes "|=", Augmented Bar) ∷
    (codes "^=", Augmented Caret) ∷
    (codes "+", Arithmetic Plus) ∷
    (codes "-", Arithmetic Minus) ∷
    (codes "*", Arithmetic Star) ∷
    (codes "/", Arithmetic Slash) ∷
    (codes "%", Arithmetic Percent) ∷
    (codes "@", Arithmetic At) ∷
    (codes "&", Arithmetic Ampersand) ∷
    (codes "|", Arithmetic Bar) ∷
    (codes "^", Arithmetic Caret) ∷
    (codes "~", Delimiter delimiter.Tilde) ∷
    (codes "<", Comparison comparison.Less) ∷
    (codes ">", Comparison comparison.Greater) ∷
    (codes "(", Open Round) ∷
    (codes ")", Close Round) ∷
    (codes "[", Open Square) ∷
    (codes "]", Close Square) ∷
    (codes "{", Open Curly) ∷
    (codes "}", Close Curly) ∷
    (codes ",", Delimiter delimiter.Comma) ∷
    (codes ":", Delimiter delimiter.Colon) ∷
    (codes ".", Delimiter delimiter.Dot) ∷
    (codes ";", Delimiter delimiter.Semicolon) ∷
    (codes "=", Delimiter delimiter.Equal) ∷ []

-- the first operator of a table whose spelling begins a text, and its length
abbrev pub operator_in : List (List ℕ × Kind) → List ℕ → Option (Kind × ℕ)
operator_in [] text = None
operator_in (entry ∷ table) text =
    if starts_with nat_eq text entry.0 then Some (entry.1, length entry.0) else operator_in table text

-- the longest operator at the front of a text, and its length
unfoldable pub operator_at : List ℕ → Option (Kind × ℕ)
operator_at text = operator_in operators text
