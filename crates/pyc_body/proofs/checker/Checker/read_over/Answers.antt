use Rattle.std.proofs.Common.{◌≡◌, ap, ◌∙◌}
use Rattle.pyc_body.proofs.ReadLemmas.{is_after}
use Rattle.pyc_reading.specs.Traces.{Trace}
use Rattle.pyc_body.proofs.checker.Checker.read_over.Goals as goal

pub returns-clause-keys : goal.returns-clause-keys
returns-clause-keys g c =
    c.into_unit_trace.ensures.keys
    ∙ ap (λ (trace : Trace). trace.keys) (is_after (g.R.IsRead.reading c.args.read.now) _ _ _ _ c.new-recorder.ensures c.in_ok-read.ensures.done)

pub returns-clause-messages : goal.returns-clause-messages
returns-clause-messages g c =
    c.into_unit_trace.ensures.messages
    ∙ ap (λ (trace : Trace). trace.messages) (is_after (g.R.IsRead.reading c.args.read.now) _ _ _ _ c.new-recorder.ensures c.in_ok-read.ensures.done)
