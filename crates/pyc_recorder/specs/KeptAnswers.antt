-- Keys with their answers.
use Rattle.std.specs.Prelude.{List, map}
use Rattle.std.specs.Map.{keys_of, values_of}
use Rattle.std.specs.declared.alloc.Global.{Global}
use Rattle.std.specs.declared.rc.Rc.{Rc}
use Rattle.pyc_known_answers.specs.LookedAnswers.{AreAnswersOf}
use Rattle.pyc_known_answers.specs.LookedAnswerView.{looked_in}
use Rattle.pyc_known_answers.specs.declared.looked_answer.LookedAnswer.{LookedAnswer}
use Rattle.pyc_names.specs.Interfaces.{Interface}
use Rattle.pyc_reading.specs.Keys.{Key}

-- each answer that is kept is the one of these files to its key
abbrev pub AreAnswers : List Interface → List (Key × Rc LookedAnswer Global) → Type 0
AreAnswers interfaces kept =
    AreAnswersOf interfaces (keys_of kept) (map (λ answer. looked_in answer.value) (values_of kept))
