-- What the code has noted.
use Rattle.std.specs.Prelude.{ℕ, if◌then◌else◌, List, Option, None, Some}
use Rattle.pyc_names.specs.declared.looks.Looks.{Looks as LooksOf}
use Rattle.pyc_names.specs.NotedLooks.{Noted, everything_noted, numbers_noted}

-- what was noted, where these numbers are kept or none are
abbrev pub noted_by : Option (List ℕ) → Noted
noted_by None = everything_noted
noted_by (Some numbers) = numbers_noted numbers

-- the numbers of looks of the code, where they are kept
abbrev pub kept_numbers : LooksOf → Option (List ℕ)
kept_numbers looks = if looks.is_kept then Some looks.numbers.items else None

-- what the code has noted
unfoldable pub noted_in : LooksOf → Noted
noted_in looks = noted_by (kept_numbers looks)
