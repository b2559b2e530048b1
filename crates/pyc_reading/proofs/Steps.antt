-- Performing one reading after another.
use Rattle.pyc_reading.proofs.RunLemmas.{run_then, grown_refl, grown_trans}

pub ruleset performing = (run_then, grown_refl, grown_trans)
