-- Which numbers of looks are flagged.
use Rattle.std.specs.Prelude.{ℕ, Bool, true, ◌==◌, List, slice_index_or}
use Rattle.pyc_names.specs.LookNumbers.{number_of}
use Rattle.pyc_names.specs.Looks.{Look}
use Rattle.pyc_names.specs.NotedLooks.{Noted}

-- whether a number is flagged: one beyond the flags counts as flagged
abbrev pub flag_at : List Bool → ℕ → Bool
flag_at flags number = slice_index_or flags number true

-- whether the number of a look is
abbrev pub is_flagged : List Bool → Look → Bool
is_flagged flags look = flag_at flags (number_of look)

-- whether a number was noted
abbrev pub is_noted : Noted → ℕ → Bool
is_noted noted number = noted (λ other. other == number)
