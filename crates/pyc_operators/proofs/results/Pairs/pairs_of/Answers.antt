use Rattle.pyc_operators.proofs.Steps.{performing}
use Rattle.pyc_operators.specs.Results.{pairs_of}
use Rattle.std.proofs.Common.{◌∙◌, map, arith, rules}
use Rattle.std.proofs.lemmas.Grind.{common_steps}
use Rattle.pyc_operators.proofs.Turns.{left_turn}
use Rattle.pyc_operators.specs.ResultsView.{results_of}
use Rattle.pyc_reading.proofs.RunLemmas.{grown_trans}
use Rattle.pyc_type_forms.specs.TypeView.{ty_of}
use Rattle.pyc_operators.proofs.results.Pairs.pairs_of.Goals as goal

pub loop-left-preserved : goal.loop-left-preserved
loop-left-preserved g c = record {
  same =
      left_turn (g.C.CallsMethods.caller c.args.self.now.caller.now) c.args.self.now.operation (results_of c.loop-left.results) _ (map ty_of c.args.rights.now) c.args.lefts.now c.loop-left.left-index _ _ _ c.loop-left-test.true c.left-item.is c.in_ok-results.ensures.done
      ∙ c.loop-left.invariant.same;
  grown = grown_trans c.loop-left.invariant.grown c.pairs_of_left.ensures.grown;
}

pub loop-left-init : goal.loop-left-init
unfolding pairs_of
loop-left-init g c = first_of (grind (arith, performing), search rules)

pub returns : goal.returns
unfolding pairs_of
returns g c = first_of (grind (arith, common_steps, performing), search rules)

pub returns-in_err-results : goal.returns-in_err-results
unfolding pairs_of
returns-in_err-results g c = first_of (grind (arith, performing), search rules)
