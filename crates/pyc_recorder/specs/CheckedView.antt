-- What came of examining a part of a file.
use Rattle.std.specs.Prelude.{ℕ, List, Option, Some, map}
use Rattle.pyc_recorder.specs.declared.checked.Checked.{Checked as CheckedOf}
use Rattle.pyc_keys.specs.Numbering.{Numbering}
use Rattle.pyc_reading.specs.Keys.{Key}
use Rattle.pyc_report.specs.Message.{Message, message_in}

-- the keys that were asked, each once and in the order in which they were first asked, as far as they are held, and
-- what was found
pub record Checked : Type 0 where
  pub reads : List (Option Key)
  pub messages : List Message

-- these keys were asked, all of which are held, and this was found
abbrev pub check_of : List Key → List Message → Checked
check_of reads messages = record { reads = map (λ key. Some key) reads; messages = messages }

-- the numbers of the keys that were asked
abbrev pub numbers_in : CheckedOf → List ℕ
numbers_in checked = checked.reads.items

-- what was found
abbrev pub messages_of : CheckedOf → List Message
messages_of checked = map message_in checked.messages.items

-- a check, where numbers stand for these keys
abbrev pub checked_in : Numbering Key → CheckedOf → Checked
checked_in held checked = record { reads = map held (numbers_in checked); messages = messages_of checked }
