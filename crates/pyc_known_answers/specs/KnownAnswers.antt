-- Answers by the numbers of their keys.
use Rattle.std.specs.Prelude.{◌≡◌, ℕ, List, [], ◌∷◌, Option, None, Some, is_some, if◌then◌else◌}
use Rattle.pyc_keys.specs.Numbering.{Numbering, with_item}
use Rattle.pyc_known_answers.specs.LookedAnswers.{LookedAnswer, IsAnswerOf}
use Rattle.pyc_names.specs.Interfaces.{Interface}
use Rattle.pyc_reading.specs.Keys.{Key}

-- it is the answer of these files to a key, and there is one
abbrev pub IsAnswerAt : List Interface → Option Key → LookedAnswer → Type 0
IsAnswerAt interfaces None looked = ⊥
IsAnswerAt interfaces (Some key) looked = IsAnswerOf interfaces key looked

-- each known answer is the one to the key that its number stands for
abbrev pub AreKnownOf : List Interface → Numbering Key → Numbering LookedAnswer → Type 0
AreKnownOf interfaces keys known =
    ∥ ((i : ℕ) (looked : LookedAnswer) → known i ≡ Some looked → IsAnswerAt interfaces (keys i) looked) ∥₁

-- what numbers stand for, so far as they are held elsewhere too
abbrev pub restrict_to_held : {A B : Type 0} → Numbering A → Numbering B → Numbering B
restrict_to_held held known i = if is_some (held i) then known i else None

-- numbers stand for these items, one after another, and all others for what they did
abbrev pub with_items : {A : Type 0} → Numbering A → List ℕ → List A → Numbering A
with_items held [] items = held
with_items held (i ∷ numbers) [] = held
with_items held (i ∷ numbers) (item ∷ items) = with_items (with_item held i item) numbers items
