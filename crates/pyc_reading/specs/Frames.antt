-- What a reading depends on.
use Rattle.std.specs.Prelude.{◌≡◌, List, [], ◌∷◌}
use Rattle.pyc_reading.specs.Answers.{Answer}
use Rattle.pyc_reading.specs.Traces.{Step}
use Rattle.pyc_reading.specs.Keys.{Key}
use Rattle.pyc_reading.specs.Readings.{reported, asked}

-- both give the same answer to each of these keys
pub data Agree (answers others : Key → Answer) : List Key → Type 0 where
  nothing_asked : Agree answers others []
  one_more : {key : Key} {keys : List Key}
      → answers key ≡ others key → Agree answers others keys → Agree answers others (key ∷ keys)

-- where two workspaces give the same answers to the keys that a check asks over one of them, it asks the same keys and
-- reports the same over the other
abbrev pub Frame : Type 0
Frame =
    (answers others : Key → Answer) (check : Step (Unit {0})) → Agree answers others (asked answers check)
    → (asked answers check ≡ asked others check) × (reported answers check ≡ reported others check)
