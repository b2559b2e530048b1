-- The numbers that a map holds.
use Rattle.std.specs.Prelude.{ℕ, Option}
use Rattle.indexmap.specs.IndexMap.{IndexMap, get}
use Rattle.pyc_class_ids.specs.Class.{Id, same_class}

-- the number that each class has in a map
abbrev pub numbers_in : {S : Type 0} → IndexMap Id ℕ S → Id → Option ℕ
numbers_in numbers class = get same_class numbers class
