-- Known answers as plain values.
use Rattle.std.specs.Prelude.{◌≡◌, ℕ, true, ◌<◌, List, length, None, option_map, slice_index_or}
use Rattle.pyc_iface.specs.PlainWorldView.{world_in}
use Rattle.pyc_keys.specs.Marks.{is_in}
use Rattle.pyc_keys.specs.Numbering.{Numbering}
use Rattle.pyc_known_answers.specs.KnownAnswers.{AreKnownOf}
use Rattle.pyc_known_answers.specs.declared.known_answers.KnownAnswers.{KnownAnswers}
use Rattle.pyc_known_answers.specs.LookedAnswers.{LookedAnswer}
use Rattle.pyc_known_answers.specs.LookedAnswerView.{looked_in}
use Rattle.pyc_names.specs.Interfaces.{Interface}
use Rattle.pyc_reading.specs.Keys.{Key}

-- the interfaces of the files of the world whose answers these are
abbrev pub interfaces_of : KnownAnswers → List Interface
interfaces_of answers = world_in answers.world.value

-- the answer of each number, with what was looked at for it, if it is known
abbrev pub known_at : KnownAnswers → Numbering LookedAnswer
known_at answers i = option_map (λ shared. looked_in shared.value) (slice_index_or answers.known.items i None)

-- the answers are over these keys: each known one is the one to the key that its number stands for
abbrev pub IsOver : Numbering Key → KnownAnswers → Type 0
IsOver keys answers = AreKnownOf (interfaces_of answers) keys (known_at answers)

-- there is a place for the answer of a number
abbrev pub HasPlace : KnownAnswers → ℕ → Type 0
HasPlace answers number = number < length answers.known.items

-- there is one for each of these
abbrev pub HavePlaces : KnownAnswers → List ℕ → Type 0
HavePlaces answers numbers = (i : ℕ) → is_in numbers i ≡ true → HasPlace answers i
