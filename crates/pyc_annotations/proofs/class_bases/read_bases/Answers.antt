use Rattle.std.proofs.lemmas.Grind.{common_steps}
use Rattle.pyc_annotations.specs.Bases.{more_bases}
use Rattle.pyc_annotations.proofs.Steps.{performing}
use Rattle.std.proofs.Common.{◌∙◌, map, arith, rules}
use Rattle.pyc_annotations.proofs.Turns.{base_turn}
use Rattle.pyc_annotations.specs.Views.{base_of}
use Rattle.pyc_names.specs.InterfaceView.{interface_in}
use Rattle.pyc_reading.proofs.RunLemmas.{grown_trans}
use Rattle.pyc_annotations.proofs.class_bases.read_bases.Goals as goal

pub loop-argument-preserved : goal.loop-argument-preserved
loop-argument-preserved g c = record {
  same =
      base_turn (interface_in c.args.file.now) (map base_of c.loop-argument.found.items) _ c.args.arguments.now c.loop-argument.argument-index _ _ _ _ c.loop-argument-test.true c.argument-item.is c.in_ok-base.ensures.done c.in_ok-push_base.ensures
      ∙ c.loop-argument.invariant.same;
  grown = grown_trans c.loop-argument.invariant.grown c.argument_base.ensures.grown;
}

pub returns-in_err-found : goal.returns-in_err-found
unfolding more_bases
returns-in_err-found g c = first_of (grind (arith, performing), search rules)

pub returns-in_err-base : goal.returns-in_err-base
unfolding more_bases
returns-in_err-base g c = first_of (grind (arith, performing), search rules)

pub returns-in_err-push_base : goal.returns-in_err-push_base
unfolding more_bases
returns-in_err-push_base g c = first_of (grind (arith, performing), search rules)

pub loop-argument-init : goal.loop-argument-init
unfolding more_bases
loop-argument-init g c = first_of (grind (arith, performing), search rules)

pub returns : goal.returns
unfolding more_bases
returns g c = first_of (grind (arith, common_steps, performing), search rules)
