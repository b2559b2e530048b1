-- Readings of which nothing is reported, performed.
use Rattle.std.proofs.Common.{◌≡◌, Bool, true, false, ◌||◌, not, List, [], ◌∷◌, ◌++◌, length, nat_lt, refl, sym, ap, ◌∙◌, append-nil, length-append, arith}
use Rattle.std.proofs.lemmas.Bool.{le-ltb, lt-ltb}
use Rattle.std.proofs.Math.Nat.{le_refl}
use Rattle.std.proofs.Math.Seq.{take-append_seam}
use Rattle.pyc_obligations.specs.Asking.{first_messages}
use Rattle.pyc_obligations.specs.Quiet.{quiet, quiet_after}
use Rattle.pyc_obligations.proofs.OwingLemmas.{all_hold, run_row}
use Rattle.pyc_obligations.specs.Judging.{judge_row}
use Rattle.pyc_reading.proofs.RunLemmas.{run_then, runs_are_folds, with_keys-append}
use Rattle.pyc_reading.specs.Traces.{Step, Trace, run, noted, all_noted, with_keys, trace_after}
use Rattle.pyc_reading.specs.Owing.{row_keys, row_reported}
use Rattle.pyc_reading.specs.Readings.{Done, Ask, Report, Require, result_of, reported, asked}
use Rattle.pyc_report.specs.Message.{Message}

-- whether some messages are there
abbrev pub are_there : List Message → Bool
are_there [] = false
are_there (m ∷ ms) = true

-- the trace after a reading of which nothing is reported
abbrev pub quiet_trace : {A : Type 0} → Step A → Trace → Trace
quiet_trace r d = record { answers = d.answers; keys = with_keys d.keys (asked d.answers r); messages = d.messages }

or_there : (b : Bool) → b || true ≡ true
or_there true = refl
or_there false = refl

or_nothing : (b : Bool) → b || false ≡ b
or_nothing true = refl
or_nothing false = refl

there_after : (b : Bool) (xs ys : List Message) → (b || not (all_hold xs)) || are_there ys ≡ b || are_there (xs ++ ys)
there_after true [] ys = refl
there_after true (x ∷ xs) ys = refl
there_after false [] ys = refl
there_after false (x ∷ xs) ys = refl

-- what it comes to
pub run_quiet_after : {A : Type 0} (b : Bool) (r : Step A) (d : Trace)
    → run (quiet_after b r) d ≡ (record { result = result_of d.answers r; is_reported = b || are_there (reported d.answers r) }, quiet_trace r d)
unfolding quiet_after
run_quiet_after b (Done a) d = ap (λ reported. (record { result = a; is_reported = reported }, d)) (sym (or_nothing b))
run_quiet_after b (Ask key go) d = run_quiet_after b (go (d.answers key)) (noted d key)
run_quiet_after b (Report diagnostic rest) d =
    run_quiet_after true rest d
    ∙ ap (λ reported. (record { result = result_of d.answers rest; is_reported = reported }, quiet_trace rest d)) (sym (or_there b))
run_quiet_after b (Require row rest) d =
    run_then (judge_row row) (λ goes. quiet_after (b || not goes) rest) d
    ∙ ap (λ (found : Bool × Trace). run (quiet_after (b || not found.0) rest) found.1) (run_row row d)
    ∙ run_quiet_after (b || not (all_hold (row_reported d.answers row))) rest (all_noted d (row_keys row))
    ∙ (λ i. (
      record { result = result_of d.answers rest; is_reported = there_after b (row_reported d.answers row) (reported d.answers rest) i },
      record { answers = d.answers; keys = sym (with_keys-append d.keys (row_keys row) (asked d.answers rest)) i; messages = d.messages },
    ))

-- a row is longer with some messages behind it
longer : (xs ys : List Message) → nat_lt (length xs) (length (xs ++ ys)) ≡ are_there ys
longer xs [] = ap (λ l. nat_lt (length xs) (length l)) (append-nil xs) ∙ le-ltb (length xs) (length xs) (le_refl (length xs))
longer xs (y ∷ ys) = lt-ltb (length xs) (length (xs ++ (y ∷ ys))) (rw (length-append xs (y ∷ ys)) (omega arith))

-- to perform a reading, and then to drop what it reported, is to perform the quiet one
pub quiet_done : {A : Type 0} (r : Step A) (d e : Trace) (a : A) → run r d ≡ (a, e)
    → run (quiet r) d ≡ (record { result = a; is_reported = nat_lt (length d.messages) (length e.messages) }, first_messages (length d.messages) e)
unfolding quiet
quiet_done r d e a done =
    let folds : (result_of d.answers r, trace_after r d) ≡ (a, e) = sym (runs_are_folds r d) ∙ done in
    run_quiet_after false r d
    ∙ ap (λ reported. (record { result = result_of d.answers r; is_reported = reported }, quiet_trace r d)) (sym (longer d.messages (reported d.answers r)))
    ∙ ap (λ messages. (record { result = result_of d.answers r; is_reported = nat_lt (length d.messages) (length (d.messages ++ reported d.answers r)) }, record { answers = d.answers; keys = with_keys d.keys (asked d.answers r); messages = messages })) (sym (take-append_seam d.messages (reported d.answers r)))
    ∙ ap (λ (found : _ × Trace). (record { result = found.0; is_reported = nat_lt (length d.messages) (length found.1.messages) }, first_messages (length d.messages) found.1)) folds
