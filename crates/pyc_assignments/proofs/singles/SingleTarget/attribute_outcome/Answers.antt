use Rattle.pyc_obligations.proofs.Steps.{performing}
use Rattle.std.proofs.Common.{None, ap, sym, arith, rules}
use Rattle.pyc_assignments.specs.Reads.{target_type_outcome}
use Rattle.pyc_assignments.specs.Singles.{attribute_outcome}
use Rattle.pyc_ast.specs.ExprView.{expr_of}
use Rattle.pyc_obligations.specs.ValueView.{value_of}
use Rattle.pyc_locals.specs.Views.{flow_state_in}
use Rattle.pyc_reading.proofs.RunLemmas.{after, grown_trans}
use Rattle.pyc_reading.specs.Readings.{Done, and_then}
use Rattle.pyc_targets.specs.AttributeTargets.{attribute_want}
use Rattle.pyc_targets.specs.TargetTypes.{plain_target_type}
use Rattle.pyc_assignments.proofs.singles.SingleTarget.attribute_outcome.Goals as goal

pub returns : goal.returns
unfolding attribute_outcome
returns g c =
    let read = g.R.InferAssignment.reads c.args.self.now.reader.now in
    let at = c.args.self.now.at in
    let inside = c.args.self.now.inside in
    let n = c.args.name.now in
    record {
      done =
          after (read.value (flow_state_in c.args.self.now.flow_state.now) (expr_of c.args.part.now) None) (λ owner. and_then (attribute_want at inside owner n) (λ want. Done (target_type_outcome (plain_target_type want)))) (g.N.Ask.trace c.args.recorder.now) _ _ _ _ c.in_ok-owner.ensures.done
          (after (attribute_want at inside (value_of c.in_ok-owner.owner) n) (λ want. Done (target_type_outcome (plain_target_type want))) (g.N.Ask.trace c.value.new.recorder) _ _ _ _ c.in_ok-want.ensures.done
          (ap (λ target_type. (target_type_outcome target_type, g.N.Ask.trace c.attribute_want.new.recorder)) (sym c.plain.ensures)));
      grown = grown_trans c.value.ensures.grown c.attribute_want.ensures.grown;
    }

pub returns-in_err-owner : goal.returns-in_err-owner
unfolding attribute_outcome
returns-in_err-owner g c = first_of (grind (arith, performing), search rules)

pub returns-in_err-want : goal.returns-in_err-want
unfolding attribute_outcome
returns-in_err-want g c = first_of (grind (arith, performing), search rules)
