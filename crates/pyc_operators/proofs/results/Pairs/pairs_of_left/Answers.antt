use Rattle.pyc_operators.proofs.Steps.{performing}
use Rattle.pyc_operators.specs.Results.{pairs_of_left}
use Rattle.std.proofs.Common.{◌∙◌, arith, rules}
use Rattle.std.proofs.lemmas.Grind.{common_steps}
use Rattle.pyc_operators.proofs.Turns.{pair_turn}
use Rattle.pyc_operators.specs.ResultsView.{results_of}
use Rattle.pyc_reading.proofs.RunLemmas.{grown_trans}
use Rattle.pyc_type_forms.specs.TypeView.{ty_of}
use Rattle.pyc_operators.proofs.results.Pairs.pairs_of_left.Goals as goal

pub loop-right-preserved : goal.loop-right-preserved
loop-right-preserved g c = record {
  same =
      pair_turn (g.C.CallsMethods.caller c.args.self.now.caller.now) c.args.self.now.operation (results_of c.loop-right.results) _ (ty_of c.args.left.now) c.args.rights.now c.loop-right.right-index _ _ _ _ c.loop-right-test.true c.right-item.is c.in_ok-found.ensures.done c.in_ok-results.ensures
      ∙ c.loop-right.invariant.same;
  grown = grown_trans c.loop-right.invariant.grown c.infer_pair.ensures.grown;
}

pub loop-right-init : goal.loop-right-init
unfolding pairs_of_left
loop-right-init g c = first_of (grind (arith, performing), search rules)

pub returns : goal.returns
unfolding pairs_of_left
returns g c = first_of (grind (arith, common_steps, performing), search rules)

pub returns-in_err-found : goal.returns-in_err-found
unfolding pairs_of_left
returns-in_err-found g c = first_of (grind (arith, performing), search rules)

pub returns-in_err-results : goal.returns-in_err-results
unfolding pairs_of_left
returns-in_err-results g c = first_of (grind (arith, performing), search rules)
