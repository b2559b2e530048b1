use Rattle.pyc_obligations.proofs.Steps.{performing}
use Rattle.std.proofs.Common.{◌∙◌, Option, map, ap, sym, arith, rules}
use Rattle.pyc_assignments.specs.Assignments.{assignment_by, assign_targets}
use Rattle.pyc_assignments.specs.Reads.{infer_type_at, want_of}
use Rattle.pyc_assignments.specs.Views.{outcome_in}
use Rattle.pyc_ast.specs.ExprView.{expr_of}
use Rattle.pyc_ast.specs.TargetView.{target_of}
use Rattle.pyc_locals.specs.Views.{flow_state_in}
use Rattle.pyc_reading.proofs.RunLemmas.{after, grown_trans}
use Rattle.pyc_reading.specs.Traces.{run}
use Rattle.pyc_type_forms.specs.Types.{Ty}
use Rattle.pyc_type_forms.specs.TypeView.{ty_of}
use Rattle.pyc_assignments.proofs.assignments.TargetsInTurn.assignment_by.Goals as goal

pub returns : goal.returns
unfolding assignment_by
returns g c =
    let read = g.R.InferAssignment.reads c.args.self.now.assigner.reader.now in
    let p = flow_state_in c.args.flow_state.now in
    let targets = map target_of c.args.targets.now in
    let value = expr_of c.args.value.now in
    let found = outcome_in c.args.self.now.found.now in
    record {
      done =
          after (infer_type_at read p value (want_of found)) (λ ty. assign_targets read c.args.self.now.assigner.at found c.args.self.now.first ty 0 targets p) (g.N.Ask.trace c.args.recorder.now) _ _ _ _
          (ap (λ (w : Option Ty). run (infer_type_at read p value w) (g.N.Ask.trace c.args.recorder.now)) (sym c.want.ensures) ∙ c.in_ok-ty.ensures.done)
          c.in_ok-assign_targets.ensures.done;
      grown = grown_trans c.infer_type_at.ensures.grown c.assign_targets.ensures.grown;
    }

pub returns-in_err-ty : goal.returns-in_err-ty
unfolding assignment_by
returns-in_err-ty g c = first_of (grind (arith, performing), search rules)

pub returns-in_err-assign_targets : goal.returns-in_err-assign_targets
unfolding assignment_by
returns-in_err-assign_targets g c = first_of (grind (arith, performing), search rules)
