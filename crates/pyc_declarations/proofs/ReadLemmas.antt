-- What a recorder that has performed a reading holds.
use Rattle.std.proofs.Common.{◌≡◌, [], ◌++◌, sym, ap, ◌∙◌}
use Rattle.pyc_declarations.specs.RecorderView.{new_trace}
use Rattle.pyc_reading.specs.Answers.{Answer}
use Rattle.pyc_reading.specs.Traces.{Step, Trace, run, with_keys}
use Rattle.pyc_reading.specs.Keys.{Key}
use Rattle.pyc_reading.specs.Readings.{result_of, reported, asked}
use Rattle.pyc_reading.proofs.RunLemmas.{runs_are_folds}

-- what a reading that was performed ends in
pub result_read : {A : Type 0} (r : Step A) (trace after : Trace) (answers : Key → Answer) (a : A) → trace ≡ new_trace answers
    → run r trace ≡ (a, after) → a ≡ result_of answers r
result_read {A} r trace after answers a new done =
    sym (ap (λ (found : A × Trace). found.0) done) ∙ ap (λ (found : A × Trace). found.0) (runs_are_folds r trace)
    ∙ ap (λ (start : Trace). result_of start.answers r) new

-- what it reported
pub reported_read : {A : Type 0} (r : Step A) (trace after : Trace) (answers : Key → Answer) (a : A) → trace ≡ new_trace answers
    → run r trace ≡ (a, after) → after.messages ≡ reported answers r
reported_read {A} r trace after answers a new done =
    sym (ap (λ (found : A × Trace). found.1.messages) done)
    ∙ ap (λ (found : A × Trace). found.1.messages) (runs_are_folds r trace)
    ∙ ap (λ (start : Trace). start.messages ++ reported start.answers r) new

-- which keys it asked, each once
pub keys_read : {A : Type 0} (r : Step A) (trace after : Trace) (answers : Key → Answer) (a : A) → trace ≡ new_trace answers
    → run r trace ≡ (a, after) → after.keys ≡ with_keys [] (asked answers r)
keys_read {A} r trace after answers a new done =
    sym (ap (λ (found : A × Trace). found.1.keys) done)
    ∙ ap (λ (found : A × Trace). found.1.keys) (runs_are_folds r trace)
    ∙ ap (λ (start : Trace). with_keys start.keys (asked start.answers r)) new
