-- What numbers stand for: finite maps from numbers.
use Rattle.std.specs.Prelude.{◌≡◌, ◌≢◌, ℕ, Bool, ◌==◌, List, map, Option, None, Some, if◌then◌else◌}
use Rattle.pyc_keys.specs.Marks.{is_in, is_marked}

-- what each number stands for, if it is held
abbrev pub Numbering : Type 0 → Type 0
Numbering A = ℕ → Option A

module _ {A : Type 0} where
  -- a number stands for an item, and all others for what they did
  abbrev pub with_item : Numbering A → ℕ → A → Numbering A
  with_item held i item j = if i == j then Some item else held j

  -- a number is free
  abbrev pub without : Numbering A → ℕ → Numbering A
  without held i j = if i == j then None else held j

  -- these numbers are free
  abbrev pub without_all : Numbering A → List ℕ → Numbering A
  without_all held numbers j = if is_in numbers j then None else held j

  -- these numbers are held, and no others
  abbrev pub only : List ℕ → Numbering A → Numbering A
  only numbers held j = if is_in numbers j then held j else None

  -- the numbers with a mark are held, and no others
  abbrev pub marked_only : List Bool → Numbering A → Numbering A
  marked_only marks held j = if is_marked marks j then held j else None

  -- each number that is held stands for what it did
  abbrev pub Extends : Numbering A → Numbering A → Type 0
  Extends old new = (i : ℕ) (item : A) → old i ≡ Some item → new i ≡ Some item

  -- these numbers stand for these items, one after another
  abbrev pub AreOf : Numbering A → List ℕ → List A → Type 0
  AreOf held numbers items = map held numbers ≡ map (λ item. Some item) items

  -- no item has two numbers
  abbrev pub IsInjective : Numbering A → Type 0
  IsInjective held = (i j : ℕ) (item : A) → held i ≡ Some item → held j ≡ Some item → i ≡ j

  -- the number of an item where one stands for it, else one that is free
  pub record IsNumberFor (held : Numbering A) (item : A) (i : ℕ) : Type 0 where
    pub own : (j : ℕ) → held j ≡ Some item → i ≡ j
    pub free : ((j : ℕ) → held j ≢ Some item) → held i ≡ None
