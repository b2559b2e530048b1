use Rattle.std.proofs.Common.{Option, ap, sym, ◌∙◌, arith, rules}
use Rattle.std.proofs.lemmas.Grind.{common_steps}
use Rattle.pyc_arguments.proofs.Parts.{view_unread}
use Rattle.pyc_arguments.specs.Matched.{argument_required, argument_read, report_refused, wanted}
use Rattle.pyc_arguments.specs.Views.{call_in}
use Rattle.pyc_ast.specs.ExprView.{expr_of}
use Rattle.pyc_matching.specs.Views.{given_in, match_in}
use Rattle.pyc_obligations.proofs.Steps.{performs_same, performing}
use Rattle.pyc_reading.proofs.RunLemmas.{after, grown_trans}
use Rattle.pyc_reading.specs.Traces.{run}
use Rattle.pyc_reading.specs.Readings.{and_then}
use Rattle.pyc_type_forms.specs.Types.{Ty}
use Rattle.pyc_type_forms.specs.TypeView.{ty_of}
use Rattle.pyc_arguments.proofs.argument_matching.MatchedArgument.read.Goals as goal

pub returns : goal.returns
unfolding argument_read
returns g c =
    let read = g.R.InferType.reads c.args.reader.now in
    let x = c.args.argument.now in
    let call = call_in c.args.self.now.call.now in
    let given = given_in c.args.self.now.given in
    let want = wanted (match_in c.args.self.now.found) in
    let requires_row = λ (got : Ty) (w : Option Ty). argument_required call x.at given c.args.self.now.number got w in
    let first = ap (λ w. run (read (expr_of x.value) w) (g.N.Ask.trace c.refuse.new.recorder)) (sym c.wanted-want.ensures) ∙ c.in_ok-got.ensures.done in
    let second = ap (λ w. run (requires_row (ty_of c.in_ok-got.got) w) (g.N.Ask.trace c.read.new.recorder)) (sym c.wanted-want.ensures) ∙ c.in_ok-require.ensures.done in
    performs_same _ _ _ _ _ _ (ap (argument_read call c.args.self.now.number given (match_in c.args.self.now.found)) (view_unread read x)) (record {
      done =
          after (report_refused call given (match_in c.args.self.now.found)) (λ u. and_then (read (expr_of x.value) want) (λ got. requires_row got want)) (g.N.Ask.trace c.args.recorder.now) _ _ _ _ c.in_ok-refuse.ensures.done
          (after (read (expr_of x.value) want) (λ got. requires_row got want) (g.N.Ask.trace c.refuse.new.recorder) _ _ _ _ first second);
      grown = grown_trans (grown_trans c.refuse.ensures.grown c.read.ensures.grown) c.require.ensures.grown;
    })

pub returns-in_err-refuse : goal.returns-in_err-refuse
unfolding argument_read
returns-in_err-refuse g c = first_of (grind (arith, performing), search rules)

pub returns-in_err-got : goal.returns-in_err-got
unfolding argument_read
returns-in_err-got g c = first_of (grind (arith, performing), search rules)

pub returns-in_err-require : goal.returns-in_err-require
unfolding argument_read
returns-in_err-require g c = first_of (grind (arith, common_steps, performing), search rules)
