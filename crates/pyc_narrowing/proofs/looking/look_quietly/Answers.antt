use Rattle.std.proofs.Common.{◌≡◌, ◌∙◌, ap, sym, subst, length}
use Rattle.pyc_ast.specs.ExprView.{expr_of}
use Rattle.pyc_narrowing.specs.Splitting.{look_quietly}
use Rattle.pyc_obligations.proofs.QuietLemmas.{quiet_done}
use Rattle.pyc_obligations.specs.Asking.{first_messages}
use Rattle.pyc_obligations.specs.Quiet.{quiet}
use Rattle.pyc_obligations.specs.ValueView.{value_of}
use Rattle.pyc_places.specs.StateView.{state_of}
use Rattle.pyc_reading.proofs.RunLemmas.{after}
use Rattle.pyc_reading.specs.Traces.{Trace, Grown}
use Rattle.pyc_reading.specs.Readings.{Done}
use Rattle.pyc_narrowing.proofs.looking.look_quietly.Goals as goal

pub returns : goal.returns
unfolding look_quietly
returns g c =
    let trace = g.N.Ask.trace c.args.recorder.now in
    let middle = g.N.Ask.trace c.look.new.recorder in
    let end = g.N.Ask.trace c.quieten.new.recorder in
    let look = g.L.InferOperand.looks c.args.looks.now (state_of c.args.state.now) (expr_of c.args.part.now) in
    let value = value_of c.in_ok-value.value in
    let ends : first_messages (length trace.messages) middle ≡ end = sym (c.quieten.ensures.trace ∙ ap (λ count. first_messages count middle) c.reported_count-count.ensures) in
    record {
      done = after (quiet look) (λ heard. Done heard.result) trace _ end _ value (quiet_done look trace middle value c.in_ok-value.ensures.done) (ap (λ (d : Trace). (value, d)) ends);
      grown = subst (λ (d : Trace). Grown trace d) ends (record { answers = c.look.ensures.grown.answers; more = c.look.ensures.grown.more; keys = c.look.ensures.grown.keys });
    }
