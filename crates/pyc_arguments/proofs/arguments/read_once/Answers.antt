use Rattle.std.proofs.lemmas.Grind.{common_steps}
use Rattle.pyc_arguments.specs.Arguments.{more_read}
use Rattle.pyc_obligations.proofs.Steps.{performing}
use Rattle.std.proofs.Common.{◌∙◌, map, arith, rules}
use Rattle.pyc_arguments.proofs.Turns.{once_turn}
use Rattle.pyc_arguments.specs.Views.{read_in}
use Rattle.pyc_reading.proofs.RunLemmas.{grown_trans}
use Rattle.pyc_arguments.proofs.arguments.read_once.Goals as goal

pub loop-argument-preserved : goal.loop-argument-preserved
loop-argument-preserved g c = record {
  same =
      once_turn (g.R.InferType.reads c.args.reader.now) (map read_in c.loop-argument.read.items) _ c.args.arguments.now c.loop-argument.argument-index c.argument-item.result _ _ _ c.loop-argument-test.true c.argument-item.is c.in_ok-ty.ensures.done c.in_ok-push_read.ensures
      ∙ c.loop-argument.invariant.same;
  grown = grown_trans c.loop-argument.invariant.grown c.read.ensures.grown;
}

pub returns-in_err-read : goal.returns-in_err-read
unfolding more_read
returns-in_err-read g c = first_of (grind (arith, performing), search rules)

pub returns-in_err-ty : goal.returns-in_err-ty
unfolding more_read
returns-in_err-ty g c = first_of (grind (arith, performing), search rules)

pub returns-in_err-push_read : goal.returns-in_err-push_read
unfolding more_read
returns-in_err-push_read g c = first_of (grind (arith, performing), search rules)

pub loop-argument-init : goal.loop-argument-init
unfolding more_read
loop-argument-init g c = first_of (grind (arith, performing), search rules)

pub returns : goal.returns
unfolding more_read
returns g c = first_of (grind (arith, common_steps, performing), search rules)
