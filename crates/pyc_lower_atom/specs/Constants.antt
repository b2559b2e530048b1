-- The literals that tokens spell (Python reference 3.13, "Literals"), and the comprehensions.
use Rattle.std.specs.Prelude.{ℕ, Bool, true, false, ◌-◌, ◌||◌, nat_le, ◌&&◌, if◌then◌else◌, List, [], ◌∷◌, Option}
use Rattle.std.specs.Prelude.{None, Some}
use Rattle.std.specs.List.{list_any}
use Rattle.pyc_ast.specs.declared.constant.Constant.{Constant}
use Rattle.pyc_ast.specs.declared.constant.Constant.TheVariants as constant
use Rattle.pyc_ast.specs.declared.constant.Unchecked.{Unchecked}
use Rattle.pyc_ast.specs.declared.constant.Unchecked.TheVariants as opaque
use Rattle.pyc_token.specs.declared.tokens.Keyword.TheVariants as word
use Rattle.pyc_token.specs.declared.tokens.Kind.{Kind}
use Rattle.pyc_token.specs.declared.tokens.Kind.TheVariants as kind
use Rattle.pyc_token.specs.declared.tokens.Number.TheVariants as number
use Rattle.pyc_token.specs.declared.tokens.Prefix.TheVariants as prefix
use Rattle.pyc_token.specs.declared.tokens.Token.{Token}
use Rattle.pyc_tree.specs.declared.display_kind.DisplayKind.{DisplayKind}
use Rattle.pyc_tree.specs.declared.display_kind.DisplayKind.TheVariants as display

-- the value of a decimal digit that stands alone
abbrev pub digit_of : List ℕ → Option ℕ
digit_of (byte ∷ []) = if nat_le 48 byte && nat_le byte 57 then Some (byte - 48) else None
digit_of _ = None

-- a number, by its token's kind and text; no other token is one
abbrev pub number_constant : Kind → List ℕ → Constant
number_constant (kind.Number number.Integer) text = constant.Integer (digit_of text)
number_constant (kind.Number number.Float) text = constant.Float
number_constant (kind.Number number.Imaginary) text = constant.Imaginary
number_constant _ text = constant.Ellipsis

-- a constant, by its token's kind
abbrev pub word_constant : Kind → Constant
word_constant (kind.Keyword word.None) = constant.None
word_constant (kind.Keyword word.True) = constant.True
word_constant (kind.Keyword word.False) = constant.False
word_constant _ = constant.Ellipsis

-- whether a string is formatted
abbrev pub is_formatted : Kind → Bool
is_formatted (kind.String prefix.Format) = true
is_formatted (kind.String prefix.RawFormat) = true
is_formatted _ = false

-- whether a string is of bytes
abbrev pub is_bytes : Kind → Bool
is_bytes (kind.String prefix.Bytes) = true
is_bytes (kind.String prefix.RawBytes) = true
is_bytes _ = false

-- strings one after another, the first of this kind: all are of bytes or none is, and one formatted string is enough
-- to make the whole one
abbrev pub strings_constant : Kind → List Token → Constant
strings_constant first more =
    if is_bytes first then constant.Bytes
    else if is_formatted first || list_any (λ token. is_formatted token.kind) more then constant.FormattedStr
    else constant.Str

-- whether a string has no prefix
abbrev pub is_plain : Kind → Bool
is_plain (kind.String prefix.Plain) = true
is_plain _ = false

-- a comprehension in brackets, by what it makes
abbrev pub comprehension : DisplayKind → Unchecked
comprehension display.Tuple = opaque.Generator
comprehension display.List = opaque.ListComprehension
comprehension display.Set = opaque.SetComprehension
comprehension display.Dict = opaque.DictComprehension
