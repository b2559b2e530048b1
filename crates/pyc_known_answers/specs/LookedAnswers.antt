-- Answers, and what was looked at for them.
use Rattle.std.specs.Prelude.{◌≡◌, ℕ, Bool, false, List, [], ◌∷◌, map}
use Rattle.std.specs.List.{list_any}
use Rattle.pyc_iface.specs.Answers.{answer_by}
use Rattle.pyc_iface.specs.Looks.{answer_looks}
use Rattle.pyc_names.specs.Interfaces.{Interface}
use Rattle.pyc_names.specs.LookNumbers.{number_of}
use Rattle.pyc_names.specs.NotedLooks.{Noted}
use Rattle.pyc_reading.specs.Answers.{Answer}
use Rattle.pyc_reading.specs.Keys.{Key}

-- an answer, and what was noted of what was looked at for it
pub record LookedAnswer : Type 0 where
  pub answer : Answer
  pub looks : Noted

-- it is the answer of these files to a key, and all that is looked at for it was noted
pub record IsAnswerOf (interfaces : List Interface) (key : Key) (looked : LookedAnswer) : Type 0 where
  pub answers : looked.answer ≡ answer_by interfaces key
  pub looks : (test : ℕ → Bool) → looked.looks test ≡ false
      → list_any test (map number_of (answer_looks interfaces key)) ≡ false

-- they are the answers of these files to some keys, one after another
abbrev pub AreAnswersOf : List Interface → List Key → List LookedAnswer → Type 0
AreAnswersOf interfaces [] [] = Unit {0}
AreAnswersOf interfaces (key ∷ keys) (looked ∷ more) =
    IsAnswerOf interfaces key looked × AreAnswersOf interfaces keys more
AreAnswersOf interfaces _ _ = ⊥
