-- Verdicts as plain values.
use Rattle.std.specs.Prelude.{ℕ, List}
use Rattle.pyc_keys.specs.Numbering.{Numbering}
use Rattle.pyc_known_answers.specs.WorldView.{held_by, interfaces_by}
use Rattle.pyc_known_answers.specs.KnownAnswersView.{interfaces_of}
use Rattle.pyc_names.specs.Interfaces.{Interface}
use Rattle.pyc_reading.specs.Keys.{Key}
use Rattle.pyc_known_answers.specs.declared.changed_keys.ChangedKeys.{ChangedKeys}

-- the keys by their numbers
abbrev pub held_in : ChangedKeys → Numbering Key
held_in changed_keys = held_by changed_keys.first.now

-- the interfaces of the files of the first world, and those of the second
abbrev pub first_in : ChangedKeys → List Interface
first_in changed_keys = interfaces_by changed_keys.first.now

abbrev pub second_in : ChangedKeys → List Interface
second_in changed_keys = interfaces_of changed_keys.second

-- the numbers of the keys that were compared, each once, in the order in which they were first
abbrev pub compared_in : ChangedKeys → List ℕ
compared_in changed_keys = changed_keys.compared
