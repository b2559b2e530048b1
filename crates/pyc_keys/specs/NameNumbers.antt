-- Names by their numbers.
use Rattle.std.specs.Prelude.{ℕ, List, slice_get}
use Rattle.pyc_keys.specs.Numbering.{Numbering}

-- the text of a number, if it is the number of one
abbrev pub text_at : List (List ℕ) → Numbering (List ℕ)
text_at texts i = slice_get texts i
