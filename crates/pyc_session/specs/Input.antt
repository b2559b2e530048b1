-- The input of a session as a sequence of lines.
use Rattle.std.specs.Prelude.{ℕ, ◌-◌, Bool, true, false, ◌==◌, ◌&&◌, List, [], ◌∷◌, length, take, if◌then◌else◌}
use Rattle.std.specs.Prelude.{slice_index}

-- whether a line feed stands in the input
abbrev pub has_line_feed : List ℕ → Bool
has_line_feed [] = false
has_line_feed (b ∷ bs) = if b == 10 then true else has_line_feed bs

-- the first line, without its line feed; the whole input where there is none
abbrev pub first_line : List ℕ → List ℕ
first_line [] = []
first_line (b ∷ bs) = if b == 10 then [] else b ∷ first_line bs

-- what stands after the first line feed
abbrev pub after_line : List ℕ → List ℕ
after_line [] = []
after_line (b ∷ bs) = if b == 10 then bs else after_line bs

-- a line that a line feed ended, without the carriage return before it; at the end of the input a carriage return stays
abbrev pub command_line : List ℕ → Bool → List ℕ
command_line line fed = if fed && (slice_index line (length line - 1) == 13) then take (length line - 1) line else line
