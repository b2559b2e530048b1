use Rattle.std.proofs.lemmas.Grind.{common_steps}
use Rattle.pyc_arguments.specs.Arguments.{all_read}
use Rattle.pyc_obligations.proofs.Steps.{performing}
use Rattle.std.proofs.Common.{◌∙◌, arith, rules}
use Rattle.pyc_arguments.proofs.Turns.{read_turn}
use Rattle.pyc_reading.proofs.RunLemmas.{grown_trans}
use Rattle.pyc_arguments.proofs.arguments.read_each.Goals as goal

pub loop-argument-preserved : goal.loop-argument-preserved
loop-argument-preserved g c = record {
  same =
      read_turn (g.R.InferType.reads c.args.reader.now) c.args.arguments.now c.loop-argument.argument-index c.argument-item.result _ _ _ c.loop-argument-test.true c.argument-item.is c.in_ok-read.ensures.done
      ∙ c.loop-argument.invariant.same;
  grown = grown_trans c.loop-argument.invariant.grown c.read.ensures.grown;
}

pub returns-in_err-read : goal.returns-in_err-read
unfolding all_read
returns-in_err-read g c = first_of (grind (arith, performing), search rules)

pub loop-argument-init : goal.loop-argument-init
unfolding all_read
loop-argument-init g c = first_of (grind (arith, performing), search rules)

pub returns : goal.returns
unfolding all_read
returns g c = first_of (grind (arith, common_steps, performing), search rules)
