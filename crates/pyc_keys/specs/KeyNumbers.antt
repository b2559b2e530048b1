-- Keys by their numbers.
use Rattle.std.specs.Prelude.{List, Option, None, slice_index_or}
use Rattle.pyc_keys.specs.Numbering.{Numbering}
use Rattle.pyc_reading.specs.Keys.{Key}

-- the key of each number from 0 on, as far as it is held
abbrev pub KeyList : Type 0
KeyList = List (Option Key)

-- the key of a number, if it is held
abbrev pub key_at : KeyList → Numbering Key
key_at keys i = slice_index_or keys i None
