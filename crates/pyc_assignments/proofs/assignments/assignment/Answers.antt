use Rattle.pyc_obligations.proofs.Steps.{performing}
use Rattle.std.proofs.Common.{◌≡◌, ◌∙◌, ℕ, Option, map, ap, sym, arith, rules}
use Rattle.std.specs.List.{slice_get}
use Rattle.pyc_assignments.proofs.Targets.{begins_at, lent_at}
use Rattle.pyc_assignments.specs.Assignments.{assignment, assignment_by, first_single, first_outcome}
use Rattle.pyc_assignments.specs.Views.{outcome_in}
use Rattle.pyc_ast.specs.declared.position.Position.{Position}
use Rattle.pyc_ast.specs.Exprs.{at_of}
use Rattle.pyc_ast.specs.ExprView.{expr_of}
use Rattle.pyc_ast.specs.Targets.{Target}
use Rattle.pyc_ast.specs.TargetView.{target_of}
use Rattle.pyc_locals.specs.Views.{flow_state_in}
use Rattle.pyc_reading.proofs.RunLemmas.{after, grown_trans}
use Rattle.pyc_reading.specs.Traces.{run}
use Rattle.pyc_assignments.proofs.assignments.assignment.Goals as goal

pub returns : goal.returns
unfolding assignment
returns g c =
    let read = g.R.InferAssignment.reads c.args.reader.now in
    let p = flow_state_in c.args.flow_state.now in
    let targets = map target_of c.args.targets.now in
    let value = expr_of c.args.value.now in
    let trace = g.N.Ask.trace c.args.recorder.now in
    let found = outcome_in c.in_ok-found.found in
    let at : at_of value ≡ c.args.value.now.at = begins_at c.args.value.now in
    let first : c.first_single-first.result ≡ first_single targets = c.first_single-first.ensures in
    record {
      done =
          after (first_outcome read p (slice_get targets (first_single targets))) (λ q. assignment_by read (at_of value) q (first_single targets) targets value p) trace _ _ _ _
          (ap (λ (n : ℕ). run (first_outcome read p (slice_get targets n)) trace) (sym first)
          ∙ ap (λ (to : Option Target). run (first_outcome read p to) trace) (lent_at target_of c.args.targets.now c.first_single-first.result c.get.result c.get.ensures.lookup) ∙ c.in_ok-found.ensures.done)
          (ap (λ (n : ℕ). run (assignment_by read (at_of value) found n targets value p) (g.N.Ask.trace c.first_outcome.new.recorder)) (sym first)
          ∙ ap (λ (a : Position). run (assignment_by read a found c.first_single-first.result targets value p) (g.N.Ask.trace c.first_outcome.new.recorder)) at ∙ c.in_ok-assignment_by.ensures.done);
      grown = grown_trans c.first_outcome.ensures.grown c.assignment_by.ensures.grown;
    }

pub returns-in_err-found : goal.returns-in_err-found
unfolding assignment
returns-in_err-found g c = first_of (grind (arith, performing), search rules)

pub returns-in_err-assignment_by : goal.returns-in_err-assignment_by
unfolding assignment
returns-in_err-assignment_by g c = first_of (grind (arith, performing), search rules)
