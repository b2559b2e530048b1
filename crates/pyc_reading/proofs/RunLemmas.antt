-- Readings performed one after another.
use Rattle.std.proofs.Common.{◌≡◌, ℕ, suc, ◌+◌, ◌<◌, List, [], ◌∷◌, ◌++◌, drop, length, get_or, add-one, drop-cons, refl, sym, ap, ◌∙◌, append_assoc, append-nil}
use Rattle.pyc_reading.specs.Answers.{Answer}
use Rattle.std.specs.declared.alloc.AllocError.{AllocError}
use Rattle.std.specs.declared.result.Result.{Result}
use Rattle.std.specs.declared.result.Result.TheVariants.{Ok, Err}
use Rattle.pyc_reading.proofs.OwingLemmas.{same_row, agree_left, agree_right}
use Rattle.pyc_reading.specs.Traces.{Step, Trace, run, noted, kept, settled, reporting, Grown, Keeps, Performs, trace_after, with_key, with_keys}
use Rattle.pyc_reading.specs.Frames.{Agree, one_more}
use Rattle.pyc_reading.specs.Keys.{Key}
use Rattle.pyc_reading.specs.Owing.{row_keys, row_reported}
use Rattle.pyc_reading.specs.Readings.{Done, Ask, Report, Require, and_then, result_of, reported, asked}
use Rattle.pyc_report.specs.Message.{Message, Diagnostic, diagnostic_message}

-- a reading and then another is performed in turn
pub run_then : {A B : Type 0} (r : Step A) (next : A → Step B) (trace : Trace) → run (and_then r next) trace ≡ run (next (run r trace).0) (run r trace).1
unfolding and_then
run_then (Done a) next trace = refl
run_then (Ask key go) next trace = run_then (go (trace.answers key)) next (noted trace key)
run_then (Report diagnostic rest) next trace = run_then rest next (kept trace (diagnostic_message diagnostic ∷ []))
run_then (Require row rest) next trace = run_then rest next (settled trace row)

-- what was performed first is what the second goes on from
pub after : {A B : Type 0} (r : Step A) (next : A → Step B) (trace middle end : Trace) (a : A) (b : B) → run r trace ≡ (a, middle) → run (next a) middle ≡ (b, end) → run (and_then r next) trace ≡ (b, end)
after {A} r next trace middle end a b first second = run_then r next trace ∙ ap (λ (found : A × Trace). run (next found.0) found.1) first ∙ second

-- one turn of a loop over a list: what is left is performed from the next on
pub one_turn : {A B X : Type 0} (whole : List X → Step B) (r : X → Step A) (next : A → List X → Step B) → ((x : X) (xs : List X) → whole (x ∷ xs) ≡ and_then (r x) (λ a. next a xs))
    → (xs : List X) (i : ℕ) (x : X) (trace middle : Trace) (a : A) → i < length xs → x ≡ get_or xs i x → run (r x) trace ≡ (a, middle)
    → run (whole (drop i xs)) trace ≡ run (next a (drop (i + 1) xs)) middle
one_turn {A} whole r next opens xs i x trace middle a within is first =
    let left : drop i xs ≡ x ∷ drop (i + 1) xs = rw add-one (drop-cons xs i x within ∙ ap (λ y. y ∷ drop (suc i) xs) (sym is)) in
    ap (λ l. run (whole l) trace) left
    ∙ ap (λ s. run s trace) (opens x (drop (i + 1) xs))
    ∙ run_then (r x) (λ b. next b (drop (i + 1) xs)) trace
    ∙ ap (λ (found : A × Trace). run (next found.0 (drop (i + 1) xs)) found.1) first

pub grown_refl : (trace : Trace) → Grown trace trace
grown_refl trace = record { answers = refl; more = []; keys = sym (append-nil trace.keys) }

pub grown_trans : {a b c : Trace} → Grown a b → Grown b c → Grown a c
grown_trans {a} {b} {c} first second = record {
  answers = second.answers ∙ first.answers;
  more = first.more ++ second.more;
  keys = second.keys ∙ ap (λ keys. keys ++ second.more) first.keys ∙ append_assoc a.keys first.more second.more;
}

-- to take keys down in two turns is to take them down in one
pub with_keys-append : (keys more rest : List Key) → with_keys keys (more ++ rest) ≡ with_keys (with_keys keys more) rest
with_keys-append keys [] rest = refl
with_keys-append keys (key ∷ more) rest = with_keys-append (with_key keys key) more rest

-- to perform a reading is to ask its keys and to report what it reports
pub runs_are_folds : {A : Type 0} (r : Step A) (trace : Trace) → run r trace ≡ (result_of trace.answers r, trace_after r trace)
runs_are_folds (Done a) trace = ap (λ messages. (a, record { answers = trace.answers; keys = trace.keys; messages = messages })) (sym (append-nil trace.messages))
runs_are_folds (Ask key go) trace = runs_are_folds (go (trace.answers key)) (noted trace key)
runs_are_folds (Report diagnostic rest) trace =
    let message = diagnostic_message diagnostic in
    runs_are_folds rest (kept trace (message ∷ []))
    ∙ ap (λ messages. (result_of trace.answers rest, record { answers = trace.answers; keys = with_keys trace.keys (asked trace.answers rest); messages = messages })) (append_assoc trace.messages (message ∷ []) (reported trace.answers rest))
runs_are_folds (Require row rest) trace =
    runs_are_folds rest (settled trace row)
    ∙ (λ i. (
      result_of trace.answers rest,
      record {
        answers = trace.answers;
        keys = sym (with_keys-append trace.keys (row_keys row) (asked trace.answers rest)) i;
        messages = append_assoc trace.messages (row_reported trace.answers row) (reported trace.answers rest) i;
      },
    ))

-- what a reading asks and reports depends on the answers to its keys alone
pub frame : {A : Type 0} (answers others : Key → Answer) (r : Step A) → Agree answers others (asked answers r) → (asked answers r ≡ asked others r) × (reported answers r ≡ reported others r)
frame answers others (Done a) agree = (refl, refl)
frame answers others (Ask key go) (one_more same agree) =
    let rest = frame answers others (go (answers key)) agree in (
      ap (λ keys. key ∷ keys) (rest.0 ∙ ap (λ answer. asked others (go answer)) same),
      rest.1 ∙ ap (λ answer. reported others (go answer)) same,
    )
frame answers others (Report diagnostic rest) agree =
    let found = frame answers others rest agree in
    (found.0, ap (λ messages. diagnostic_message diagnostic ∷ messages) found.1)
frame answers others (Require row rest) agree =
    let found = frame answers others rest (agree_right answers others (row_keys row) (asked answers rest) agree) in
    let first = same_row answers others row (agree_left answers others (row_keys row) (asked answers rest) agree) in
    (ap (λ keys. row_keys row ++ keys) found.0, (λ i. first i ++ found.1 i))

-- a call that keeps the message of a diagnostic performs the reading that reports the diagnostic
pub keeps_reports : (diagnostic : Diagnostic) (message : Message) (old new : Trace) (result : Result (Unit {0}) AllocError) → message ≡ diagnostic_message diagnostic
    → Keeps (message ∷ []) old result new → Performs (λ (u : Unit {0}). u) (reporting diagnostic) old result new
keeps_reports diagnostic message old new (Ok u) same keeps = record { done = ap (λ trace. (u, trace)) (ap (λ m. kept old (m ∷ [])) (sym same) ∙ sym keeps.done); grown = keeps.grown }
keeps_reports diagnostic message old new (Err e) same keeps = record { done = tt; grown = keeps.grown }
