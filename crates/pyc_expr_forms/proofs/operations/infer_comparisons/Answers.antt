use Rattle.std.proofs.lemmas.Grind.{common_steps}
use Rattle.pyc_expr_forms.specs.Operations.{infer_comparisons}
use Rattle.pyc_obligations.proofs.Steps.{performing}
use Rattle.std.proofs.Common.{◌∙◌, arith, rules}
use Rattle.pyc_expr_forms.proofs.Turns.{compared_turn}
use Rattle.pyc_places.specs.StateView.{state_of}
use Rattle.pyc_reading.proofs.RunLemmas.{grown_trans}
use Rattle.pyc_type_forms.specs.TypeView.{ty_of}
use Rattle.pyc_expr_forms.proofs.operations.infer_comparisons.Goals as goal

pub loop-link-preserved : goal.loop-link-preserved
loop-link-preserved g c = record {
  same =
      compared_turn (g.P.InferValue.parts c.args.parts.now) (state_of c.args.state.now) c.args.at (ty_of c.loop-link.left) _ c.args.rest.now c.loop-link.link-index c.link-item.result _ _ c.loop-link-test.true c.link-item.is c.in_ok-left.ensures.done
      ∙ c.loop-link.invariant.same;
  grown = grown_trans c.loop-link.invariant.grown c.infer_comparison.ensures.grown;
}

pub returns-in_err-left : goal.returns-in_err-left
unfolding infer_comparisons
returns-in_err-left g c = first_of (grind (arith, performing), search rules)

pub loop-link-init : goal.loop-link-init
unfolding infer_comparisons
loop-link-init g c = first_of (grind (arith, performing), search rules)

pub returns : goal.returns
unfolding infer_comparisons
returns g c = first_of (grind (arith, common_steps, performing), search rules)
