-- The trace at which a recorder performs readings.
use Rattle.std.specs.Prelude.{◌≡◌, List, [], ◌++◌, map}
use Rattle.pyc_declarations.specs.declared.declaration_recorder.DeclarationRecorder.{DeclarationRecorder}
use Rattle.pyc_reading.specs.Answers.{Answer}
use Rattle.pyc_reading.specs.Traces.{Trace}
use Rattle.pyc_reading.specs.Keys.{Key}
use Rattle.pyc_reading.specs.KeyView.{key_of}
use Rattle.pyc_report.specs.Message.{message_in}

-- the trace of a recorder, over what its answers answer
abbrev pub trace_of : {A : Type 0} → (A → Key → Answer) → DeclarationRecorder A → Trace
trace_of answers declaration_recorder =
    record {
      answers = answers declaration_recorder.answers;
      keys = map key_of declaration_recorder.keys.items;
      messages = map message_in declaration_recorder.messages.items;
    }

-- a trace with these answers at which nothing was asked or reported
abbrev pub new_trace : (Key → Answer) → Trace
new_trace answers = record { answers = answers; keys = []; messages = [] }

-- some keys, and perhaps others behind them
abbrev pub HasMore : List Key → List Key → Type 0
HasMore before after = (more : List Key) × (after ≡ before ++ more)
