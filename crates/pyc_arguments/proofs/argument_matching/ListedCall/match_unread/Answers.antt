use Rattle.std.proofs.lemmas.Grind.{common_steps}
use Rattle.pyc_arguments.specs.Matched.{arguments_matched}
use Rattle.pyc_obligations.proofs.Steps.{performing}
use Rattle.std.proofs.Common.{◌+◌, ap, ◌∙◌, arith, rules}
use Rattle.pyc_arguments.proofs.Parts.{places_at_most}
use Rattle.pyc_arguments.proofs.Turns.{counted_unread, matched_turn}
use Rattle.pyc_arguments.specs.Arguments.{places_of, unread}
use Rattle.pyc_arguments.specs.Views.{call_in, filling_in}
use Rattle.pyc_ast.specs.ExprView.{argument_of}
use Rattle.pyc_matching.specs.Views.{given_in}
use Rattle.pyc_reading.proofs.RunLemmas.{grown_trans}
use Rattle.pyc_type_forms.specs.TypeView.{param_row}
use Rattle.pyc_arguments.proofs.argument_matching.ListedCall.match_unread.Goals as goal

pub loop-argument-preserved : goal.loop-argument-preserved
loop-argument-preserved g c =
    let read = g.R.InferType.reads c.args.reader.now in
    let number = c.loop-argument.number in
    let counted = ap (λ n. number + n) (c.places_of-number.ensures ∙ ap places_of c.given_by.ensures) ∙ counted_unread read c.argument-item.result number in (
      record {
        same =
            matched_turn (λ x. unread read (argument_of x)) (call_in c.args.self.now.call.now) (param_row c.args.self.now.params.now) number _ (filling_in c.loop-argument.filling) _ c.args.arguments.now c.loop-argument.argument-index c.argument-item.result _ _ c.loop-argument-test.true c.argument-item.is counted c.in_ok-take_unread.ensures.done
            ∙ c.loop-argument.invariant.0.same;
        grown = grown_trans c.loop-argument.invariant.0.grown c.take_unread.ensures.grown;
      },
      omega (arith, c.loop-argument.invariant.1, c.places_of-number.ensures, places_at_most (given_in c.given_by.result)),
    )

pub returns-in_err-take_unread : goal.returns-in_err-take_unread
unfolding arguments_matched
returns-in_err-take_unread g c = first_of (grind (arith, performing), search rules)

pub loop-argument-init : goal.loop-argument-init
unfolding arguments_matched
loop-argument-init g c = first_of (grind (arith, performing), search rules)

pub returns : goal.returns
unfolding arguments_matched
returns g c = first_of (grind (arith, common_steps, performing), search rules)
