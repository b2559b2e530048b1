use Rattle.std.proofs.Common.{ap, sym, ◌∙◌}
use Rattle.pyc_arguments.proofs.Parts.{kinds_are}
use Rattle.pyc_arguments.specs.Matched.{matched_unless}
use Rattle.pyc_arguments.specs.Views.{args_in, call_in}
use Rattle.pyc_obligations.proofs.Steps.{performs_same}
use Rattle.pyc_type_forms.specs.TypeView.{param_row}
use Rattle.pyc_arguments.proofs.argument_matching.match_listed.Goals as goal

pub returns : goal.returns
returns g c =
    let args = args_in (g.R.InferType.reads c.args.reader.now) c.args.arguments.now in
    let is = kinds_are (g.R.InferType.reads c.args.reader.now) c.args.arguments.now ∙ sym c.has_unpacked.ensures ∙ c.if-has_unpacked.false in
    performs_same _ _ _ _ _ _ (ap (λ b. matched_unless b (call_in c.args.call.now) (param_row c.args.params.now) args) is) c.match_plainly.ensures

pub returns-then-has_unpacked : goal.returns-then-has_unpacked
returns-then-has_unpacked g c =
    let args = args_in (g.R.InferType.reads c.args.reader.now) c.args.arguments.now in
    let is = kinds_are (g.R.InferType.reads c.args.reader.now) c.args.arguments.now ∙ sym c.has_unpacked.ensures ∙ c.if-has_unpacked.true in
    performs_same _ _ _ _ _ _ (ap (λ b. matched_unless b (call_in c.args.call.now) (param_row c.args.params.now) args) is) c.read_all.ensures
