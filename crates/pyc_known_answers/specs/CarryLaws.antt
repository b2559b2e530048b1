-- Which known answers stay those of other files.
use Rattle.std.specs.Prelude.{◌≡◌, Bool, false, if◌then◌else◌, List, Option, None, Some}
use Rattle.pyc_iface.specs.CarryLaws.{AnswersStay}
use Rattle.pyc_iface.specs.Flags.{flag_at, is_flagged}
use Rattle.pyc_known_answers.specs.LookedAnswers.{LookedAnswer, IsAnswerOf}
use Rattle.pyc_names.specs.Interfaces.{Interface}
use Rattle.pyc_reading.specs.Keys.{Key}

abbrev pub unflagged : List Bool → LookedAnswer → Option LookedAnswer
unflagged flags known = if known.looks (flag_at flags) then None else Some known

-- what stays known of an answer: nothing where something flagged was looked at
abbrev pub carried : List Bool → Option LookedAnswer → Option LookedAnswer
carried flags None = None
carried flags (Some known) = unflagged flags known

-- a known answer is that of other files, where answers are the same there for which nothing flagged is looked at, and
-- nothing flagged was looked at for it
abbrev pub KnownCarriesOver : Type 0
KnownCarriesOver =
    (flags : List Bool) (files others : List Interface) → AnswersStay (is_flagged flags) files others
    → (key : Key) (known : LookedAnswer) → known.looks (flag_at flags) ≡ false
    → IsAnswerOf files key known → IsAnswerOf others key known
