-- Keys by number, from inside.
use Rattle.std.specs.Prelude.{◌≡◌, ℕ, ◌≤◌, length, None}
use Rattle.pyc_keys.specs.KeyNumbers.{KeyList}
use Rattle.pyc_keys.specs.KeyTableView.{key_list, keys_in}
use Rattle.pyc_keys.specs.declared.keys.Keys.TheInside.{Inside}

abbrev pub list_of : Inside → KeyList
list_of keys = key_list keys.table

-- each number that is held has a mark
abbrev pub AreCovered : Inside → Type 0
AreCovered keys = (i : ℕ) → length keys.marks ≤ i → keys_in keys.table i ≡ None
