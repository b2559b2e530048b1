use Rattle.pyc_obligations.proofs.Steps.{performing}
use Rattle.std.proofs.Common.{◌∙◌, Some, ap, sym, arith, rules}
use Rattle.pyc_assignments.proofs.Targets.{begins_at}
use Rattle.pyc_assignments.specs.Assignments.{declare_target, assign_value, store_value}
use Rattle.pyc_assignments.specs.Reads.{infer_type_at}
use Rattle.pyc_assignments.specs.Views.{outcome_in}
use Rattle.pyc_ast.specs.ExprView.{expr_of}
use Rattle.pyc_ast.specs.Exprs.{at_of}
use Rattle.pyc_ast.specs.TargetView.{target_of}
use Rattle.pyc_locals.specs.Views.{flow_state_in}
use Rattle.pyc_reading.proofs.RunLemmas.{after, grown_trans}
use Rattle.pyc_reading.specs.Traces.{run}
use Rattle.pyc_type_forms.specs.TypeView.{ty_of}
use Rattle.pyc_assignments.proofs.annotated.AnnotatedTarget.assign_value.Goals as goal

pub returns : goal.returns
unfolding assign_value
returns g c =
    let read = g.R.InferAssignment.reads c.args.self.now.reader.now in
    let p = flow_state_in c.args.flow_state.now in
    let to = target_of c.args.self.now.target.now in
    let want = ty_of c.args.self.now.want.now in
    let value = expr_of c.args.value.now in
    let early = outcome_in c.args.early.now in
    let got = ty_of c.in_ok-got.got in
    let trace = g.N.Ask.trace c.infer_type_at.new.recorder in
    record {
      done =
          after (infer_type_at read p value (Some want)) (λ got. store_value read c.args.self.now.declares to want early (at_of value) got (declare_target want to p)) (g.N.Ask.trace c.args.recorder.now) _ _ _ _ c.in_ok-got.ensures.done
          (ap (λ at. run (store_value read c.args.self.now.declares to want early at got (declare_target want to p)) trace) (begins_at c.args.value.now)
          ∙ ap (λ q. run (store_value read c.args.self.now.declares to want early c.args.value.now.at got q) trace) (sym c.in_ok-declare_target.ensures) ∙ c.in_ok-store_value.ensures.done);
      grown = grown_trans c.infer_type_at.ensures.grown c.store_value.ensures.grown;
    }

pub returns-in_err-got : goal.returns-in_err-got
unfolding assign_value
returns-in_err-got g c = first_of (grind (arith, performing), search rules)

pub returns-in_err-declare_target : goal.returns-in_err-declare_target
unfolding assign_value
returns-in_err-declare_target g c = first_of (grind (arith, performing), search rules)

pub returns-in_err-store_value : goal.returns-in_err-store_value
unfolding assign_value
returns-in_err-store_value g c = first_of (grind (arith, performing), search rules)
