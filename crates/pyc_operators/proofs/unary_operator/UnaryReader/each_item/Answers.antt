use Rattle.pyc_operators.proofs.Steps.{performing}
use Rattle.pyc_operators.specs.Unary.{each_item}
use Rattle.std.proofs.Common.{◌∙◌, arith, rules}
use Rattle.std.proofs.lemmas.Grind.{common_steps}
use Rattle.pyc_operators.proofs.Turns.{item_turn}
use Rattle.pyc_operators.specs.ResultsView.{results_of}
use Rattle.pyc_reading.proofs.RunLemmas.{grown_trans}
use Rattle.pyc_operators.proofs.unary_operator.UnaryReader.each_item.Goals as goal

pub loop-operand-preserved : goal.loop-operand-preserved
loop-operand-preserved g c = record {
  same =
      item_turn (g.C.CallsMethods.caller c.args.self.now.caller.now) c.args.self.now.operation (results_of c.loop-operand.results) _ c.args.operands.now c.loop-operand.operand-index _ _ _ _ c.loop-operand-test.true c.operand-item.is c.in_ok-found.ensures.done c.in_ok-results.ensures
      ∙ c.loop-operand.invariant.same;
  grown = grown_trans c.loop-operand.invariant.grown c.one_item.ensures.grown;
}

pub loop-operand-init : goal.loop-operand-init
unfolding each_item
loop-operand-init g c = first_of (grind (arith, performing), search rules)

pub returns : goal.returns
unfolding each_item
returns g c = first_of (grind (arith, common_steps, performing), search rules)

pub returns-in_err-found : goal.returns-in_err-found
unfolding each_item
returns-in_err-found g c = first_of (grind (arith, performing), search rules)

pub returns-in_err-results : goal.returns-in_err-results
unfolding each_item
returns-in_err-results g c = first_of (grind (arith, performing), search rules)
