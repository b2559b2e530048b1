use Rattle.std.proofs.Common.{ap, sym, ◌∙◌, arith, rules}
use Rattle.pyc_arguments.proofs.Parts.{matched_unread}
use Rattle.pyc_arguments.specs.Arguments.{unread}
use Rattle.pyc_arguments.specs.Matched.{argument_read, argument_taken, filling_after}
use Rattle.pyc_arguments.specs.Views.{call_in, filling_in}
use Rattle.pyc_ast.specs.ExprView.{argument_of}
use Rattle.pyc_matching.specs.Matching.{match_of}
use Rattle.pyc_matching.specs.Views.{given_in, match_in}
use Rattle.pyc_obligations.proofs.Steps.{performs_same, performing}
use Rattle.pyc_reading.proofs.RunLemmas.{after}
use Rattle.pyc_reading.specs.Readings.{Done}
use Rattle.pyc_type_forms.specs.TypeView.{param_row}
use Rattle.pyc_arguments.proofs.argument_matching.ListedCall.take_unread.Goals as goal

pub returns : goal.returns
unfolding argument_taken
returns g c =
    let call = call_in c.args.self.now.call.now in
    let params = param_row c.args.self.now.params.now in
    let number = c.args.number in
    let filling = filling_in c.args.filling.now in
    let given = given_in c.given_by-given.result in
    let found = match_in c.matched-found.result in
    let read = g.R.InferType.reads c.args.reader.now in
    let arg = unread read (argument_of c.args.argument.now) in
    let same = matched_unread call params number filling read c.args.argument.now
    ∙ ap (λ h. argument_taken call number filling h (match_of filling.fill params h) arg) (sym c.given_by-given.ensures)
    ∙ ap (λ m. argument_taken call number filling given m arg) (sym c.matched-found.ensures) in
    performs_same _ _ _ _ _ _ same (record {
      done =
          after (argument_read call number given found arg) (λ u. Done (filling_after filling given found)) (g.N.Ask.trace c.args.recorder.now) _ _ _ _ c.in_ok-read.ensures.done
          (ap (λ f. (f, g.N.Ask.trace c.read.new.recorder)) (sym c.in_ok-take.ensures));
      grown = c.read.ensures.grown;
    })

pub returns-in_err-read : goal.returns-in_err-read
unfolding argument_taken
returns-in_err-read g c = first_of (grind (arith, performing), search rules)

pub returns-in_err-take : goal.returns-in_err-take
unfolding argument_taken
returns-in_err-take g c = first_of (grind (arith, performing), search rules)
