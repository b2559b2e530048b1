use Rattle.std.proofs.lemmas.Grind.{common_steps}
use Rattle.pyc_assignments.specs.Assignments.{assign_targets}
use Rattle.pyc_obligations.proofs.Steps.{performing}
use Rattle.std.proofs.Common.{◌∙◌, arith, rules}
use Rattle.pyc_assignments.proofs.Turns.{target_turn}
use Rattle.pyc_assignments.specs.Views.{outcome_in}
use Rattle.pyc_locals.specs.Views.{flow_state_in}
use Rattle.pyc_reading.proofs.RunLemmas.{grown_trans}
use Rattle.pyc_type_forms.specs.TypeView.{ty_of}
use Rattle.pyc_assignments.proofs.assignments.TargetsInTurn.assign_targets.Goals as goal

pub loop-index-preserved : goal.loop-index-preserved
loop-index-preserved g c = record {
  same =
      target_turn (g.R.InferAssignment.reads c.args.self.now.assigner.reader.now) c.args.self.now.assigner.at (outcome_in c.args.self.now.found.now) c.args.self.now.first (ty_of c.args.ty.now) c.args.targets.now c.loop-index.index c.index-targets-index.result (flow_state_in c.loop-index.flow_state) _ _ _ c.loop-index-test.true c.index-targets-index.is c.in_ok-assign_one.ensures.done
      ∙ c.loop-index.invariant.same;
  grown = grown_trans c.loop-index.invariant.grown c.assign_one.ensures.grown;
}

pub returns-in_err-assign_one : goal.returns-in_err-assign_one
unfolding assign_targets
returns-in_err-assign_one g c = first_of (grind (arith, performing), search rules)

pub loop-index-init : goal.loop-index-init
unfolding assign_targets
loop-index-init g c = first_of (grind (arith, performing), search rules)

pub returns : goal.returns
unfolding assign_targets
returns g c = first_of (grind (arith, common_steps, performing), search rules)
