-- A table of keys and their numbers.
use Rattle.pyc_keys.specs.KeyNumbers.{KeyList, key_at}
use Rattle.pyc_keys.specs.Numbering.{Numbering}
use Rattle.pyc_keys.specs.declared.key_table.KeyTable.{KeyTable}
use Rattle.pyc_reading.specs.Keys.{Key}

-- the keys by their numbers
abbrev pub key_list : KeyTable → KeyList
key_list table = table.slots.slots

abbrev pub keys_in : KeyTable → Numbering Key
keys_in table = key_at (key_list table)
