-- Physical lines and columns (Python reference, lexical analysis, "Physical lines").
use Rattle.std.specs.Prelude.{ℕ, ◌+◌, Bool, not, ◌||◌, ◌&&◌, ◌==◌, nat_le, if◌then◌else◌, List, [], ◌∷◌}
use Rattle.std.specs.Prelude.{slice_index}
use Rattle.pyc_lex.specs.declared.positions.Position.{Position}
use Rattle.pyc_token.specs.Characters.{begins_character}

-- whether a physical line ends with a byte: a line feed, or a carriage return that no line feed follows
abbrev pub ends_line : ℕ → ℕ → Bool
ends_line byte next = byte == 10 || byte == 13 && not (next == 10)

-- the position after a byte
abbrev pub position_past : Position → ℕ → ℕ → Position
position_past position byte next =
    if ends_line byte next then record { line = position.line + 1; column = 1 }
    else if begins_character byte then record { line = position.line; column = position.column + 1 }
    else position

-- the position after a text
abbrev pub position_after : Position → List ℕ → Position
position_after position [] = position
position_after position (byte ∷ rest) = position_after (position_past position byte (slice_index rest 0)) rest

-- a printed character of ASCII, which takes a column
abbrev pub is_printed : ℕ → Bool
is_printed byte = nat_le 32 byte && nat_le byte 126
