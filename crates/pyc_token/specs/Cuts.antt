-- A source text as lexemes: the longest lexeme is cut off the front of what is left, again and again
-- (Python reference, lexical analysis, "Other tokens").
use Rattle.std.specs.Prelude.{ℕ, zero, suc, ◌+◌, Bool, ◌||◌, ◌&&◌, ◌==◌, if◌then◌else◌, List, [], ◌∷◌, take, drop}
use Rattle.std.specs.Prelude.{length, slice_index, Option, None, Some, Result, Ok, Err}
use Rattle.std.specs.List.{prefix_len}
use Rattle.std.specs.Str.{chars}
use Rattle.pyc_token.specs.declared.tokens.Prefix.{Prefix}
use Rattle.pyc_token.specs.declared.tokens.Prefix.TheVariants as prefix
use Rattle.pyc_token.specs.declared.tokens.Number.{Number}
use Rattle.pyc_token.specs.declared.tokens.Kind.{Kind}
use Rattle.pyc_token.specs.declared.tokens.Kind.TheVariants as kind
use Rattle.pyc_token.specs.declared.lexeme.Lexeme.{Lexeme}
use Rattle.pyc_token.specs.declared.lexeme.Lexeme.TheVariants.{Name, Token, Blank, Comment, LineEnd, Joined}
use Rattle.pyc_token.specs.declared.lexeme.CutFault.{CutFault}
use Rattle.pyc_token.specs.declared.lexeme.CutFault.TheVariants as fault
use Rattle.pyc_token.specs.Characters.{is_blank, is_line_end, line_end_len, is_comment_byte, is_quote, is_digit}
use Rattle.pyc_token.specs.Characters.{is_name_start}
use Rattle.pyc_token.specs.Names.{name_len}
use Rattle.pyc_token.specs.Numbers.{number_at}
use Rattle.pyc_token.specs.Operators.{operator_at}
use Rattle.pyc_token.specs.Strings.{prefix_of, is_format, string_len, has_open_field}

-- ---- the lexeme at the front

-- a lexeme with its number of bytes, or the fault that stands there
abbrev pub FirstLexeme : Type 0
FirstLexeme = Result (Lexeme × ℕ) CutFault

-- a string whose token has this text; an f-string with an open field is an open string
abbrev pub string_token : Prefix → ℕ → List ℕ → FirstLexeme
string_token prefix len text =
    if is_format prefix && has_open_field (take len text) then Err fault.OpenString
    else Ok (Token (kind.String prefix), len)

-- a string whose prefix takes so many bytes, and the rest of it so many, if it is closed
abbrev pub string_of : Prefix → ℕ → Option ℕ → List ℕ → FirstLexeme
string_of prefix before None text = Err fault.OpenString
string_of prefix before (Some len) text = string_token prefix (before + len) text

-- the string at the front, whose prefix takes so many bytes
unfoldable pub string_front : Prefix → ℕ → List ℕ → FirstLexeme
string_front prefix before text = string_of prefix before (string_len (drop before text)) text

-- a name before a quote: a prefix, or a name of its own
abbrev pub name_or_string : Option Prefix → ℕ → List ℕ → FirstLexeme
name_or_string None len text = Ok (Name, len)
name_or_string (Some prefix) len text = string_front prefix len text

-- the longest name, or the string whose prefix it is
unfoldable pub name_front : List ℕ → FirstLexeme
name_front text =
    let len = name_len text in
    if is_quote (slice_index text len) then name_or_string (prefix_of (take len text)) len text else Ok (Name, len)

-- a number with its length
abbrev pub number_front : Number × ℕ → FirstLexeme
number_front found = Ok (Token (kind.Number found.0), found.1)

-- an operator with its length; where none stands, the character begins no token
abbrev pub operator_front : Option (Kind × ℕ) → FirstLexeme
operator_front None = Err fault.BadCharacter
operator_front (Some found) = Ok (Token found.0, found.1)

-- whether a number begins: a digit, or a point and a digit
abbrev pub begins_number : List ℕ → Bool
begins_number text = is_digit (slice_index text 0) || slice_index text 0 == 46 && is_digit (slice_index text 1)

-- whether a joined line begins: a backslash directly before a line end ("Explicit line joining")
abbrev pub begins_line_join : List ℕ → Bool
begins_line_join text = slice_index text 0 == 92 && is_line_end (slice_index text 1)

-- the longest lexeme at the front of a text
unfoldable pub cut_first_lexeme : List ℕ → FirstLexeme
cut_first_lexeme text =
    let first = slice_index text 0 in
    if is_blank first then Ok (Blank, prefix_len is_blank text)
    else if is_line_end first then Ok (LineEnd, line_end_len text)
    else if first == 35 then Ok (Comment, prefix_len is_comment_byte text)
    else if begins_line_join text then Ok (Joined, 1 + line_end_len (drop 1 text))
    else if is_quote first then string_front prefix.Plain 0 text
    else if begins_number text then number_front (number_at text)
    else if is_name_start (slice_index (chars text) 0) then name_front text
    else operator_front (operator_at text)

-- ---- all lexemes

-- a lexeme with its bytes, or a fault in its place
pub data Cut : Type 0 where
  found : Lexeme → List ℕ → Cut
  bad : CutFault → Cut

-- what is cut off a text
abbrev pub cut_off : FirstLexeme → List ℕ → Cut
cut_off (Ok front) text = found front.0 (take front.1 text)
cut_off (Err fault) text = bad fault

-- what is left of the text then
abbrev pub left_of : FirstLexeme → List ℕ → List ℕ
left_of (Ok front) text = drop front.1 text
left_of (Err fault) text = []

-- at most so many lexemes of a text, up to the first fault
unfoldable pub cuts_up_to : ℕ → List ℕ → List Cut
cuts_up_to zero text = []
cuts_up_to (suc count) [] = []
cuts_up_to (suc count) (byte ∷ text) =
    let front = cut_first_lexeme (byte ∷ text) in cut_off front (byte ∷ text) ∷ cuts_up_to count
    (left_of front (byte ∷ text))

-- all lexemes of a text, up to the first fault
unfoldable pub cuts : List ℕ → List Cut
cuts text = cuts_up_to (length text) text
