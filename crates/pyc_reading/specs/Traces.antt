-- Performing a reading: the answers that are there, the keys that were asked so far, each once and in the order in
-- which they were first asked, and what was reported so far.
use Rattle.std.specs.Prelude.{ℕ, ◌≡◌, List, [], ◌∷◌, ◌++◌, if◌then◌else◌, IfOk}
use Rattle.std.specs.List.{list_any}
use Rattle.std.specs.declared.alloc.AllocError.{AllocError}
use Rattle.std.specs.declared.result.Result.{Result}
use Rattle.pyc_reading.specs.Answers.{Answer}
use Rattle.pyc_reading.specs.Keys.{Key, same_key}
use Rattle.pyc_reading.specs.Owing.{Obligation, row_keys, row_reported}
use Rattle.pyc_reading.specs.Readings.{Reading, Done, Ask, Report, Require, result_of, reported, asked}
use Rattle.pyc_report.specs.declared.message.Code.{Code}
use Rattle.pyc_report.specs.Message.{Message, Diagnostic, diagnostic_message, error_at, error_on_line, note_at}
use Rattle.pyc_ast.specs.declared.position.Position.{Position}

-- a reading of a part of a file
abbrev pub Step : Type 0 → Type 0
Step A = Reading A

-- where a reading is performed
pub record Trace : Type 0 where
  pub answers : Key → Answer
  pub keys : List Key
  pub messages : List Message

-- some keys and one more, unless it is among them
abbrev pub with_key : List Key → Key → List Key
with_key keys key = if list_any (λ other. same_key other key) keys then keys else keys ++ (key ∷ [])

-- some keys and those of a list that are not among them, in turn
abbrev pub with_keys : List Key → List Key → List Key
with_keys keys [] = keys
with_keys keys (key ∷ more) = with_keys (with_key keys key) more

-- a trace at which a key was asked
abbrev pub noted : Trace → Key → Trace
noted trace key = record { answers = trace.answers; keys = with_key trace.keys key; messages = trace.messages }

-- a trace at which keys were asked
abbrev pub all_noted : Trace → List Key → Trace
all_noted trace keys =
    record { answers = trace.answers; keys = with_keys trace.keys keys; messages = trace.messages }

-- a trace at which messages were reported
abbrev pub kept : Trace → List Message → Trace
kept trace messages =
    record { answers = trace.answers; keys = trace.keys; messages = trace.messages ++ messages }

-- a trace at which a row was required: its keys were asked, and the first obligation that does not hold was reported
abbrev pub settled : Trace → List Obligation → Trace
settled trace row = kept (all_noted trace (row_keys row)) (row_reported trace.answers row)

-- what a reading comes to at a trace, and the trace after it
abbrev pub run : {A : Type 0} → Step A → Trace → A × Trace
run (Done a) trace = (a, trace)
run (Ask key go) trace = run (go (trace.answers key)) (noted trace key)
run (Report diagnostic rest) trace = run rest (kept trace (diagnostic_message diagnostic ∷ []))
run (Require row rest) trace = run rest (settled trace row)

-- to ask a key
abbrev pub asking : Key → Step Answer
asking key = Ask key (λ answer. Done answer)

-- to report a diagnostic
abbrev pub reporting : Diagnostic → Step (Unit {0})
reporting diagnostic = Report diagnostic (Done tt)

-- to report an error at a position
abbrev pub error_reported : Position → Code → List ℕ → Step (Unit {0})
error_reported at code text = reporting (error_at at code text)

-- to report an error on a line as a whole
abbrev pub line_reported : ℕ → Code → List ℕ → Step (Unit {0})
line_reported line code text = reporting (error_on_line line code text)

-- to report a note at a position
abbrev pub note_reported : Position → List ℕ → Step (Unit {0})
note_reported at text = reporting (note_at at text)

-- to require a row of obligations, and one by itself
unfoldable pub owing : List Obligation → Step (Unit {0})
owing row = Require row (Done tt)

abbrev pub required : Obligation → Step (Unit {0})
required obligation = owing (obligation ∷ [])

-- a trace grows: its answers stay, and more keys are asked
pub record Grown (old new : Trace) : Type 0 where
  pub answers : new.answers ≡ old.answers
  pub more : List Key
  pub keys : new.keys ≡ old.keys ++ more

-- a call performed a reading; where memory ran out, the keys that were asked are kept, and nothing is said of messages
pub record Performs {X A : Type 0} (view : X → A) (r : Step A) (old : Trace) (result : Result X AllocError)
    (new : Trace)
    : Type 0 where
  pub done : IfOk result (λ x. run r old ≡ (view x, new))
  pub grown : Grown old new

-- a call took keys down; where memory ran out, the keys from before are kept, and nothing is said of others
pub record Asks {X : Type 0} (keys : List Key) (old : Trace) (result : Result X AllocError) (new : Trace) : Type 0 where
  pub done : IfOk result (λ x. new ≡ all_noted old keys)
  pub grown : Grown old new

-- a call took messages down; where memory ran out, nothing is said of messages
pub record Keeps {X : Type 0} (messages : List Message) (old : Trace) (result : Result X AllocError) (new : Trace)
    : Type 0 where
  pub done : IfOk result (λ x. new ≡ kept old messages)
  pub grown : Grown old new

-- a loop goes on: what is left to do at one trace comes to the same as all of it did at another
pub record Going {A : Type 0} (left : Step A) (now : Trace) (whole : Step A) (start : Trace) : Type 0 where
  pub same : run left now ≡ run whole start
  pub grown : Grown start now

-- the trace after a reading, by what it asks and reports
abbrev pub trace_after : {A : Type 0} → Step A → Trace → Trace
trace_after r trace =
    record {
      answers = trace.answers;
      keys = with_keys trace.keys (asked trace.answers r);
      messages = trace.messages ++ reported trace.answers r;
    }

-- to perform a check is to ask its keys and to report what it reports
abbrev pub RunsAreFolds : Type 0
RunsAreFolds = (r : Step (Unit {0})) (trace : Trace) → run r trace ≡ (result_of trace.answers r, trace_after r trace)
