-- Which keys are held.
use Rattle.std.specs.Prelude.{◌≡◌, ℕ, List, is_some}
use Rattle.pyc_keys.specs.Marks.{is_in}
use Rattle.pyc_keys.specs.Numbering.{Numbering}
use Rattle.pyc_reading.specs.Keys.{Key}

-- a number is held exactly where it is one of these
abbrev pub HoldsJust : Numbering Key → List ℕ → Type 0
HoldsJust held numbers = (i : ℕ) → is_some (held i) ≡ is_in numbers i
