-- Strings (Python reference, lexical analysis, "String and Bytes literals" and "Formatted string literals").
use Rattle.std.specs.Prelude.{ℕ, zero, suc, ◌+◌, Bool, true, false, not, ◌||◌, ◌&&◌, ◌==◌, nat_eq, if◌then◌else◌, List}
use Rattle.std.specs.Prelude.{[], ◌∷◌, map, take, drop, length, slice_index, codes, Option, None, Some, option_map}
use Rattle.std.specs.Char.{to_ascii_lowercase}
use Rattle.std.specs.List.{starts_with, list_any}
use Rattle.std.specs.Str.{bytes_eq}
use Rattle.pyc_token.specs.declared.tokens.Prefix.{Prefix}
use Rattle.pyc_token.specs.declared.tokens.Prefix.TheVariants as prefix
use Rattle.pyc_token.specs.Characters.{is_line_end, line_end_len}

-- whether a name is a word, in either case
abbrev pub is_spelled : List ℕ → List ℕ → Bool
is_spelled name word = bytes_eq (map to_ascii_lowercase name) (map to_ascii_lowercase word)

-- the prefix that is spelled so, in either case
abbrev pub prefix_of : List ℕ → Option Prefix
prefix_of name =
    if is_spelled name (codes "r") then Some prefix.Raw
    else if is_spelled name (codes "u") then Some prefix.Unicode
    else if is_spelled name (codes "b") then Some prefix.Bytes
    else if is_spelled name (codes "f") then Some prefix.Format
    else if is_spelled name (codes "br") || is_spelled name (codes "rb") then Some prefix.RawBytes
    else if is_spelled name (codes "fr") || is_spelled name (codes "rf") then Some prefix.RawFormat
    else None

-- whether a string with this prefix is an f-string
abbrev pub is_format : Prefix → Bool
is_format prefix.Format = true
is_format prefix.RawFormat = true
is_format _ = false

-- how many quotes open and close the string at the front: three where three stand there
abbrev pub quotes_len : List ℕ → ℕ
quotes_len text = if slice_index text 1 == slice_index text 0 && slice_index text 2 == slice_index text 0 then 3 else 1

-- how many bytes go together within a string: a backslash takes the next character along, or the next line end
abbrev pub unit_len : List ℕ → ℕ
unit_len text = if slice_index text 0 == 92 then 1 + line_end_len (drop 1 text) else 1

-- whether a byte is a bare line end in a string in single quotes
abbrev pub is_cut_off : List ℕ → ℕ → Bool
is_cut_off quotes byte = length quotes == 1 && is_line_end byte

-- whether a byte goes by itself within a string of such quotes, and neither begins them nor ends a line
abbrev pub is_inner : ℕ → ℕ → Bool
is_inner quote byte = not (quote == byte) && (not (byte == 92) && not (is_line_end byte))

-- how many bytes a string goes on for after its opening quotes, its closing quotes included, or none where it is open;
-- one in single quotes may not hold a bare line end. The number bounds how far it is read
unfoldable pub string_rest_len : ℕ → List ℕ → List ℕ → Option ℕ
string_rest_len zero quotes text = None
string_rest_len (suc count) quotes [] = None
string_rest_len (suc count) quotes (byte ∷ rest) =
    if starts_with nat_eq (byte ∷ rest) quotes then Some (length quotes)
    else if is_cut_off quotes byte then None
    else let len = unit_len (byte ∷ rest)
    in option_map (λ more. len + more) (string_rest_len count quotes (drop len (byte ∷ rest)))

-- how many bytes the string at the front takes, or none where it is open
unfoldable pub string_len : List ℕ → Option ℕ
string_len text =
    let quotes = quotes_len text in
    let inside = drop quotes text in
    option_map (λ more. quotes + more) (string_rest_len (length inside) (take quotes text) inside)

-- a text without each `{{`, from left to right; at the second brace of one the test is true
abbrev pub without_doubled : Bool → List ℕ → List ℕ
without_doubled within [] = []
without_doubled true (byte ∷ rest) = without_doubled false rest
without_doubled false (byte ∷ rest) =
    if byte == 123 && slice_index rest 0 == 123 then without_doubled true rest else byte ∷ without_doubled false rest

-- whether some `{` has no `}` after it
abbrev pub has_open_brace : List ℕ → Bool
has_open_brace [] = false
has_open_brace (byte ∷ rest) = byte == 123 && not (list_any (λ later. later == 125) rest) || has_open_brace rest

-- whether a field of the f-string with this text is left open
unfoldable pub has_open_field : List ℕ → Bool
has_open_field text = has_open_brace (without_doubled false text)
