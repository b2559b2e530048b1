-- Classes of bytes and characters (Python reference, lexical analysis).
use Rattle.std.specs.Prelude.{ℕ, Bool, not, ◌||◌, ◌&&◌, ◌==◌, nat_le, if◌then◌else◌, List, slice_index}
use Rattle.std.specs.Char.{is_ascii_digit}
use Rattle.unicode_ident.specs.Ident.{is_xid_start}

-- a space, a tab or a form feed ("Whitespace between tokens")
abbrev pub is_blank : ℕ → Bool
is_blank byte = byte == 32 || byte == 9 || byte == 12

-- a line feed or a carriage return ("Physical lines")
abbrev pub is_line_end : ℕ → Bool
is_line_end byte = byte == 10 || byte == 13

-- how many bytes a line end takes: two for a carriage return and a line feed
abbrev pub line_end_len : List ℕ → ℕ
line_end_len text = if slice_index text 0 == 13 && slice_index text 1 == 10 then 2 else 1

-- what a comment goes on with ("Comments")
abbrev pub is_comment_byte : ℕ → Bool
is_comment_byte byte = not (is_line_end byte)

-- `'` or `"`
abbrev pub is_quote : ℕ → Bool
is_quote byte = byte == 39 || byte == 34

-- a decimal digit
abbrev pub is_digit : ℕ → Bool
is_digit byte = is_ascii_digit byte

-- a character that a name starts with ("Identifiers and keywords")
abbrev pub is_name_start : ℕ → Bool
is_name_start character = is_xid_start character || character == 95

-- a byte that begins a character of UTF-8
abbrev pub begins_character : ℕ → Bool
begins_character byte = not (nat_le 128 byte && nat_le byte 191)
