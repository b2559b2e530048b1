use Rattle.std.proofs.Common.{◌≡◌, Option, length, map, nat_lt, option_map, ap, sym, ◌∙◌}
use Rattle.pyc_arguments.specs.Views.{read_in}
use Rattle.pyc_calls.specs.Called.{call_result}
use Rattle.pyc_calls.specs.Methods.{method_call, infer_call_quietly, unless_reported}
use Rattle.pyc_obligations.proofs.QuietLemmas.{quiet_done}
use Rattle.pyc_obligations.specs.Asking.{first_messages}
use Rattle.pyc_obligations.specs.Quiet.{quiet}
use Rattle.pyc_reading.proofs.RunLemmas.{after}
use Rattle.pyc_reading.specs.Traces.{Trace}
use Rattle.pyc_reading.specs.Readings.{Done}
use Rattle.pyc_type_forms.specs.Types.{Ty}
use Rattle.pyc_type_forms.specs.TypeView.{ty_of}
use Rattle.pyc_calls.proofs.methods.infer_call_quietly.Goals as goal

pub returns : goal.returns
unfolding infer_call_quietly
returns g c =
    let step = call_result method_call (map read_in c.args.arguments.now) (ty_of c.args.callee.now) in
    let trace = g.N.Ask.trace c.args.recorder.now in
    let middle = g.N.Ask.trace c.infer_placed_call.new.recorder in
    let ty = ty_of c.in_ok-ty.ty in
    let reported = nat_lt (length trace.messages) (length middle.messages) in
    let is_reported : c.quieten-is_reported.result ≡ reported = c.quieten-is_reported.ensures.reported ∙ ap (λ n. nat_lt n (length middle.messages)) c.reported_count-count.ensures in
    let end : g.N.Ask.trace c.quieten-is_reported.new.recorder ≡ first_messages (length trace.messages) middle =
    c.quieten-is_reported.ensures.trace ∙ ap (λ n. first_messages n middle) c.reported_count-count.ensures in
    let given : unless_reported reported ty ≡ option_map ty_of c.unless_reported.result = sym (c.unless_reported.ensures ∙ ap (λ b. unless_reported b ty) is_reported) in
    let grown = c.infer_placed_call.ensures.grown in
    record {
      done =
          after (quiet step) (λ heard. Done (unless_reported heard.is_reported heard.result)) trace _ _ _ _ (quiet_done step trace middle ty c.in_ok-ty.ensures.done)
          (ap (λ (found : Option Ty). (found, first_messages (length trace.messages) middle)) given ∙ ap (λ (d : Trace). (option_map ty_of c.unless_reported.result, d)) (sym end));
      grown = record {
        answers = ap (λ (d : Trace). d.answers) end ∙ grown.answers;
        more = grown.more;
        keys = ap (λ (d : Trace). d.keys) end ∙ grown.keys;
      };
    }
