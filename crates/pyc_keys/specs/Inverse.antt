-- Keys of numbers and numbers of keys.
use Rattle.std.specs.Prelude.{◌≡◌, ℕ, Option, Some}
use Rattle.pyc_keys.specs.Numbering.{Numbering}
use Rattle.pyc_reading.specs.Keys.{Key}

-- each is the way back of the other
pub record AreInverse (keys : Numbering Key) (numbers : Key → Option ℕ) : Type 0 where
  pub there : (key : Key) (i : ℕ) → numbers key ≡ Some i → keys i ≡ Some key
  pub back : (i : ℕ) (key : Key) → keys i ≡ Some key → numbers key ≡ Some i
