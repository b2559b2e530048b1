-- Readings of which nothing is reported: what comes of them alone, and whether they would report something.
use Rattle.std.specs.Prelude.{Bool, true, false, not, ◌||◌}
use Rattle.pyc_obligations.specs.Judging.{judge_row}
use Rattle.pyc_reading.specs.Traces.{Step}
use Rattle.pyc_reading.specs.Readings.{Done, Ask, Report, Require, and_then}

-- what a reading came to, and whether it reported something
pub record Heard (A : Type 0) : Type 0 where
  pub result : A
  pub is_reported : Bool

-- a reading of which no one is reported: what was reported before counts as well
unfoldable pub quiet_after : {A : Type 0} → Bool → Step A → Step (Heard A)
quiet_after reported (Done a) = Done (record { result = a; is_reported = reported })
quiet_after reported (Ask key go) = Ask key (λ answer. quiet_after reported (go answer))
quiet_after reported (Report diagnostic rest) = quiet_after true rest
quiet_after reported (Require row rest) = and_then (judge_row row) (λ holds. quiet_after (reported || not holds) rest)

unfoldable pub quiet : {A : Type 0} → Step A → Step (Heard A)
quiet r = quiet_after false r
