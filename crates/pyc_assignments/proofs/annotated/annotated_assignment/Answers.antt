use Rattle.pyc_obligations.proofs.Steps.{performing}
use Rattle.std.proofs.Common.{◌∙◌, Option, option_map, ap, sym, arith, rules}
use Rattle.pyc_assignments.proofs.Targets.{lent}
use Rattle.pyc_assignments.specs.Assignments.{annotated_assignment, check_optional_value}
use Rattle.pyc_ast.specs.ExprView.{expr_of}
use Rattle.pyc_ast.specs.Exprs.{Expr}
use Rattle.pyc_ast.specs.TargetView.{target_of}
use Rattle.pyc_locals.specs.Views.{flow_state_in}
use Rattle.pyc_reading.proofs.RunLemmas.{after, grown_trans}
use Rattle.pyc_reading.specs.Traces.{run}
use Rattle.pyc_type_forms.specs.TypeView.{ty_of}
use Rattle.pyc_assignments.proofs.annotated.annotated_assignment.Goals as goal

pub returns : goal.returns
unfolding annotated_assignment
returns g c =
    let read = g.R.InferAssignment.reads c.args.reader.now in
    let p = flow_state_in c.args.flow_state.now in
    let found = c.args.found.now in
    let to = target_of found.target in
    record {
      done =
          after (read.annotated (expr_of found.annotation)) (check_optional_value read c.args.declares to (option_map expr_of found.value) p) (g.N.Ask.trace c.args.recorder.now) _ _ _ _ c.in_ok-want.ensures.done
          (ap (λ (v : Option Expr). run (check_optional_value read c.args.declares to v p (ty_of c.in_ok-want.want)) (g.N.Ask.trace c.annotated.new.recorder)) (sym (lent expr_of c.as_ref.result _ c.as_ref.ensures.value)) ∙ c.in_ok-check_optional_value.ensures.done);
      grown = grown_trans c.annotated.ensures.grown c.check_optional_value.ensures.grown;
    }

pub returns-in_err-want : goal.returns-in_err-want
unfolding annotated_assignment
returns-in_err-want g c = first_of (grind (arith, performing), search rules)

pub returns-in_err-check_optional_value : goal.returns-in_err-check_optional_value
unfolding annotated_assignment
returns-in_err-check_optional_value g c = first_of (grind (arith, performing), search rules)
