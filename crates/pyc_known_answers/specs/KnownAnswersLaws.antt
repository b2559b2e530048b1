-- How known answers stay those of their keys.
use Rattle.std.specs.Prelude.{ℕ, List}
use Rattle.pyc_keys.specs.Numbering.{Numbering, Extends, without}
use Rattle.pyc_known_answers.specs.KnownAnswers.{AreKnownOf, restrict_to_held}
use Rattle.pyc_known_answers.specs.LookedAnswers.{LookedAnswer}
use Rattle.pyc_names.specs.Interfaces.{Interface}
use Rattle.pyc_reading.specs.Keys.{Key}

-- where more keys are held
abbrev pub StayWithMoreKeys : Type 0
StayWithMoreKeys =
    (interfaces : List Interface) (old new : Numbering Key) (known : Numbering LookedAnswer)
    → Extends old new → AreKnownOf interfaces old known → AreKnownOf interfaces new known

-- where fewer are, and the answers of the numbers that are not held are forgotten
abbrev pub StayWithFewerKeys : Type 0
StayWithFewerKeys =
    (interfaces : List Interface) (old new : Numbering Key) (known : Numbering LookedAnswer)
    → Extends new old → AreKnownOf interfaces old known → AreKnownOf interfaces new (restrict_to_held new known)

-- where a number is let go, and its answer is forgotten
abbrev pub StayWithoutOne : Type 0
StayWithoutOne =
    (interfaces : List Interface) (keys : Numbering Key) (known : Numbering LookedAnswer) (i : ℕ)
    → AreKnownOf interfaces keys known → AreKnownOf interfaces (without keys i) (without known i)
