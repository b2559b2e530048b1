-- Performing one reading after another.
use Rattle.std.proofs.Common.{◌≡◌, sym, subst}
use Rattle.std.specs.declared.alloc.AllocError.{AllocError}
use Rattle.std.specs.declared.result.Result.{Result}
use Rattle.pyc_reading.proofs.RunLemmas.{run_then, grown_refl, grown_trans}
use Rattle.pyc_reading.specs.Traces.{Step, Trace, Performs}

pub ruleset performing = (run_then, grown_refl, grown_trans)

-- a call that performs the reading `r` performs each reading `s` that is equal to it
pub performs_same : {X A : Type 0} (view : X → A) (r s : Step A) (old new : Trace) (result : Result X AllocError) → s ≡ r
    → Performs view r old result new → Performs view s old result new
performs_same view r s old new result same done = subst (λ x. Performs view x old result new) (sym same) done
