use Rattle.pyc_obligations.proofs.Steps.{performing}
use Rattle.std.proofs.Common.{None, refl, arith, rules}
use Rattle.std.proofs.lemmas.Grind.{common_steps}
use Rattle.pyc_assignments.specs.Reads.{target_type_outcome, infer_type_at}
use Rattle.pyc_assignments.specs.Singles.{subscript_outcome}
use Rattle.pyc_ast.specs.ExprView.{expr_of, index_of}
use Rattle.pyc_locals.specs.Views.{flow_state_in}
use Rattle.pyc_reading.proofs.RunLemmas.{after, grown_trans}
use Rattle.pyc_reading.specs.Readings.{Done, and_then}
use Rattle.pyc_targets.specs.ItemTargets.{item_target}
use Rattle.pyc_type_forms.specs.TypeView.{ty_of}
use Rattle.pyc_assignments.proofs.singles.SingleTarget.subscript_outcome.Goals as goal

pub returns : goal.returns
unfolding subscript_outcome
returns g c =
    let read = g.R.InferAssignment.reads c.args.self.now.reader.now in
    let p = flow_state_in c.args.self.now.flow_state.now in
    let at = c.args.self.now.at in
    let inside = c.args.self.now.inside in
    let brackets = index_of c.args.index.now in
    record {
      done =
          after (infer_type_at read p (expr_of c.args.part.now) None) (λ ty. and_then (read.index p brackets) (λ got. and_then (item_target at inside brackets got ty) (λ target_type. Done (target_type_outcome target_type)))) (g.N.Ask.trace c.args.recorder.now) _ _ _ _ c.in_ok-ty.ensures.done
          (after (read.index p brackets) (λ got. and_then (item_target at inside brackets got (ty_of c.in_ok-ty.ty)) (λ target_type. Done (target_type_outcome target_type))) (g.N.Ask.trace c.infer_type_at.new.recorder) _ _ _ _ c.in_ok-got.ensures.done
          (after (item_target at inside brackets (ty_of c.in_ok-got.got) (ty_of c.in_ok-ty.ty)) (λ target_type. Done (target_type_outcome target_type)) (g.N.Ask.trace c.index.new.recorder) _ _ _ _ c.in_ok-target_type.ensures.done refl));
      grown = grown_trans (grown_trans c.infer_type_at.ensures.grown c.index.ensures.grown) c.item_target.ensures.grown;
    }

pub returns-in_err-ty : goal.returns-in_err-ty
unfolding subscript_outcome
returns-in_err-ty g c = first_of (grind (arith, performing), search rules)

pub returns-in_err-got : goal.returns-in_err-got
unfolding subscript_outcome
returns-in_err-got g c = first_of (grind (arith, performing), search rules)

pub returns-in_err-target_type : goal.returns-in_err-target_type
unfolding subscript_outcome
returns-in_err-target_type g c = first_of (grind (arith, common_steps, performing), search rules)
