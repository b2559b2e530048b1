-- Keys with their answers, as plain values.
use Rattle.std.specs.Prelude.{List, option_map}
use Rattle.pyc_keys.specs.KeyNumbers.{key_at}
use Rattle.pyc_keys.specs.Numbering.{Numbering}
use Rattle.pyc_known_answers.specs.declared.world.World.{World}
use Rattle.pyc_known_answers.specs.KnownAnswersView.{interfaces_of, known_at}
use Rattle.pyc_names.specs.Interfaces.{Interface}
use Rattle.pyc_reading.specs.Answers.{Answer}
use Rattle.pyc_reading.specs.Keys.{Key}

-- the key of each number, if it is held
abbrev pub held_by : World → Numbering Key
held_by answered = key_at answered.keys

-- the interfaces of the files of the world that answers
abbrev pub interfaces_by : World → List Interface
interfaces_by answered = interfaces_of answered.answers

-- the answer of each number, if it is known
abbrev pub known_by : World → Numbering Answer
known_by answered i = option_map (λ looked. looked.answer) (known_at answered.answers i)
