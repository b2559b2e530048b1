use Rattle.std.proofs.Common.{ap}
use Rattle.pyc_arguments.specs.Views.{shown_in}
use Rattle.pyc_calls.proofs.Kept.{unread_rows}
use Rattle.pyc_calls.specs.Called.{call_result}
use Rattle.pyc_obligations.proofs.Steps.{performs_same}
use Rattle.pyc_type_forms.specs.TypeView.{ty_of}
use Rattle.pyc_calls.proofs.calls.UnreadCall.call.Goals as goal

pub returns : goal.returns
returns g c =
    performs_same _ _ _ _ _ _ (ap (λ args. call_result (record { at = c.args.self.now.at; shown = shown_in c.args.self.now.shown }) args (ty_of c.args.callee.now)) (unread_rows (g.R.InferType.reads c.args.self.now.reader.now) c.args.arguments.now)) c.call_result.ensures
