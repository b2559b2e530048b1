-- What was asked of an examiner, what it answered, and what it was reported, as plain values.
use Rattle.std.specs.Prelude.{List, map}
use Rattle.indexmap.specs.IndexMap.{keys}
use Rattle.pyc_recorder.specs.KeptAnswers.{AreAnswers}
use Rattle.pyc_recorder.specs.declared.unit_trace.UnitTrace.{UnitTrace}
use Rattle.pyc_names.specs.Interfaces.{Interface}
use Rattle.pyc_reading.specs.Keys.{Key}
use Rattle.pyc_report.specs.Message.{Message, message_in}

-- the keys that were asked, each once and in the order in which they were first asked, and what was reported
abbrev pub asked_in : UnitTrace → List Key
asked_in unit_trace = keys unit_trace.answers

abbrev pub reported_in : UnitTrace → List Message
reported_in unit_trace = map message_in unit_trace.messages.items

-- each key was answered by these files
abbrev pub AreAnswered : List Interface → UnitTrace → Type 0
AreAnswered interfaces unit_trace = ∥ AreAnswers interfaces unit_trace.answers.entries ∥₁
