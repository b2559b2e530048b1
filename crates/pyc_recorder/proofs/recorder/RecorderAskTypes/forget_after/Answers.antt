use Rattle.std.proofs.Common.{sym, ap, ◌∙◌, List, map}
use Rattle.std.proofs.lemmas.List.{take-map}
use Rattle.pyc_recorder.specs.RecorderView.{trace_of}
use Rattle.pyc_report.specs.Message.{Message, message_in}
use Rattle.pyc_recorder.proofs.recorder.RecorderAskTypes.forget_after.Goals as goal

pub returns : goal.returns
returns g c =
    let trace = trace_of c.args.self.now in
    ap (λ (messages : List Message). record { answers = trace.answers; keys = trace.keys; messages = messages })
    (ap (map message_in) c.truncate.ensures.items ∙ sym (take-map message_in c.args.count c.args.self.now.messages.items))
