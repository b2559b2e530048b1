use Rattle.pyc_obligations.proofs.Steps.{performing}
use Rattle.std.proofs.Common.{map, None, arith, rules}
use Rattle.pyc_arguments.specs.Views.{shown_in}
use Rattle.pyc_ast.specs.ExprView.{expr_of, argument_of}
use Rattle.pyc_expr_forms.specs.CallValues.{infer_value_call, infer_plain_call}
use Rattle.pyc_places.specs.StateView.{state_of}
use Rattle.pyc_reading.proofs.RunLemmas.{after, grown_trans}
use Rattle.pyc_expr_forms.proofs.call_values.infer_plain_call.Goals as goal

pub returns : goal.returns
unfolding infer_plain_call
returns g c =
    let s = state_of c.args.state.now in
    let context = g.C.Context.context c.args.context.now in
    let parts = g.P.InferValue.parts c.args.parts.now in
    record {
      done =
          after (parts s (expr_of c.args.callee.now) None) (infer_value_call context parts s c.args.at (map argument_of c.args.arguments.now) (shown_in c.args.shown)) (g.N.Ask.trace c.args.recorder.now) _ _ _ _ c.in_ok-found.ensures.done c.in_ok-ty.ensures.done;
      grown = grown_trans c.part.ensures.grown c.infer_value_call.ensures.grown;
    }

pub returns-in_err-found : goal.returns-in_err-found
unfolding infer_plain_call
returns-in_err-found g c = first_of (grind (arith, performing), search rules)

pub returns-in_err-ty : goal.returns-in_err-ty
unfolding infer_plain_call
returns-in_err-ty g c = first_of (grind (arith, performing), search rules)
