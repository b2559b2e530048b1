-- What was noted of what was looked at: the numbers of looks. Where no numbers are kept, each counts as noted.
use Rattle.std.specs.Prelude.{ℕ, Bool, true, false, ◌||◌, List, map}
use Rattle.std.specs.List.{list_any}
use Rattle.pyc_names.specs.Looks.{Look}
use Rattle.pyc_names.specs.LookNumbers.{number_of}

-- whether a number was noted that passes a test
abbrev pub Noted : Type 0
Noted = (ℕ → Bool) → Bool

unfoldable pub nothing_noted : Noted
nothing_noted test = false

unfoldable pub everything_noted : Noted
everything_noted test = true

-- these numbers alone
unfoldable pub numbers_noted : List ℕ → Noted
numbers_noted numbers test = list_any test numbers

-- what was noted before, and the numbers of these
unfoldable pub with_looks : Noted → List Look → Noted
with_looks noted looks test = noted test || list_any test (map number_of looks)
