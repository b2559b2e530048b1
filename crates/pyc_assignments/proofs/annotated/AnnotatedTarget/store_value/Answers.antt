use Rattle.std.proofs.lemmas.Grind.{common_steps}
use Rattle.pyc_obligations.proofs.Steps.{performing}
use Rattle.std.proofs.Common.{◌∙◌, Option, option_map, false, ap, sym, arith, rules}
use Rattle.pyc_assignments.proofs.Targets.{lent}
use Rattle.pyc_assignments.specs.Assignments.{store_value, late_want}
use Rattle.pyc_assignments.specs.Storing.{assignment_required, renarrow}
use Rattle.pyc_assignments.specs.Views.{outcome_in}
use Rattle.pyc_ast.specs.TargetView.{target_of}
use Rattle.pyc_locals.specs.FlowStates.{FlowState, in_state}
use Rattle.pyc_locals.specs.Views.{flow_state_in}
use Rattle.pyc_reading.proofs.RunLemmas.{after, grown_trans}
use Rattle.pyc_reading.specs.Traces.{run}
use Rattle.pyc_reading.specs.Readings.{Done, and_then}
use Rattle.pyc_type_forms.specs.Types.{Ty}
use Rattle.pyc_type_forms.specs.TypeView.{ty_of}
use Rattle.pyc_assignments.proofs.annotated.AnnotatedTarget.store_value.Goals as goal

pub returns : goal.returns
unfolding store_value
returns g c =
    let read = g.R.InferAssignment.reads c.args.self.now.reader.now in
    let p = flow_state_in c.args.flow_state.now in
    let to = target_of c.args.self.now.target.now in
    let got = ty_of c.args.got.now in
    let want = ty_of c.args.self.now.want.now in
    let at = c.args.at in
    let takes = option_map ty_of c.in_ok-takes.takes in
    record {
      done =
          after (late_want read c.args.self.now.declares want p (outcome_in c.args.early.now) to) (λ takes. and_then (assignment_required at false got want) (λ u. and_then (renarrow to takes got p.state) (λ s. Done (in_state p s)))) (g.N.Ask.trace c.args.recorder.now) _ _ _ _ c.in_ok-takes.ensures.done
          (after (assignment_required at false got want) (λ u. and_then (renarrow to takes got p.state) (λ s. Done (in_state p s))) (g.N.Ask.trace c.late_want.new.recorder) _ _ _ _ c.in_ok-assignment_required.ensures.done
          (after (renarrow to takes got p.state) (λ s. Done (in_state p s)) (g.N.Ask.trace c.assignment_required.new.recorder) _ _ _ _
          (ap (λ (d : Option Ty). run (renarrow to d got p.state) (g.N.Ask.trace c.assignment_required.new.recorder)) (sym (lent ty_of c.as_ref.result _ c.as_ref.ensures.value)) ∙ c.in_ok-state.ensures.done)
          (ap (λ (q : FlowState). (q, g.N.Ask.trace c.renarrow.new.recorder)) (sym c.set_state.ensures))));
      grown = grown_trans (grown_trans c.late_want.ensures.grown c.assignment_required.ensures.grown) c.renarrow.ensures.grown;
    }

pub returns-in_err-takes : goal.returns-in_err-takes
unfolding store_value
returns-in_err-takes g c = first_of (grind (arith, performing), search rules)

pub returns-in_err-assignment_required : goal.returns-in_err-assignment_required
unfolding store_value
returns-in_err-assignment_required g c = first_of (grind (arith, performing), search rules)

pub returns-in_err-state : goal.returns-in_err-state
unfolding store_value
returns-in_err-state g c = first_of (grind (arith, common_steps, performing), search rules)
