-- The trace at which an examiner performs readings.
use Rattle.std.specs.Prelude.{map}
use Rattle.indexmap.specs.IndexMap.{keys}
use Rattle.pyc_recorder.specs.declared.recorder.OverFiles.{Ghosts}
use Rattle.pyc_recorder.specs.declared.recorder.Recorder.{Recorder}
use Rattle.pyc_iface.specs.Answers.{answer_by}
use Rattle.pyc_known_answers.specs.WorldView.{interfaces_by}
use Rattle.pyc_reading.specs.Traces.{Trace}
use Rattle.pyc_report.specs.Message.{message_in}

-- the trace of an examiner, over what its world answers
abbrev pub trace_of : {F : Type 0} {files : Ghosts F} → Recorder F files → Trace
trace_of recorder =
    record {
      answers = answer_by (interfaces_by recorder.keys.now);
      keys = keys recorder.answers;
      messages = map message_in recorder.messages.items;
    }
