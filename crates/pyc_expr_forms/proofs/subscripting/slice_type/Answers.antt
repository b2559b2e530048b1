use Rattle.pyc_obligations.proofs.Steps.{performing}
use Rattle.std.proofs.Common.{ap, arith, rules}
use Rattle.std.proofs.lemmas.Grind.{common_steps}
use Rattle.pyc_ast.specs.ExprView.{optional_of}
use Rattle.pyc_calls.proofs.Kept.{any_in}
use Rattle.pyc_expr_forms.specs.Subscripting.{infer_optional, slice_type}
use Rattle.pyc_places.specs.StateView.{state_of}
use Rattle.pyc_reading.proofs.RunLemmas.{after, grown_trans}
use Rattle.pyc_reading.specs.Readings.{Done, and_then}
use Rattle.pyc_type_forms.specs.Types.{any}
use Rattle.pyc_expr_forms.proofs.subscripting.slice_type.Goals as goal

pub returns : goal.returns
unfolding slice_type
returns g c =
    let read = infer_optional (g.P.InferValue.parts c.args.parts.now) (state_of c.args.state.now) in
    let upper = optional_of c.args.upper.now in
    let step = optional_of c.args.step.now in
    record {
      done =
          after (read (optional_of c.args.lower.now)) (λ u. and_then (read upper) (λ v. and_then (read step) (λ w. Done any))) (g.N.Ask.trace c.args.recorder.now) _ _ _ _ c.in_ok-infer_optional.ensures.done
          (after (read upper) (λ v. and_then (read step) (λ w. Done any)) _ _ _ _ _ c.in_ok-infer_optional-2.ensures.done
          (after (read step) (λ w. Done any) _ _ _ _ _ c.in_ok-infer_optional-3.ensures.done (ap (λ ty. (ty, g.N.Ask.trace c.infer_optional-3.new.recorder)) any_in)));
      grown = grown_trans (grown_trans c.infer_optional.ensures.grown c.infer_optional-2.ensures.grown) c.infer_optional-3.ensures.grown;
    }

pub returns-in_err-infer_optional : goal.returns-in_err-infer_optional
unfolding slice_type
returns-in_err-infer_optional g c = first_of (grind (arith, performing), search rules)

pub returns-in_err-infer_optional-2 : goal.returns-in_err-infer_optional-2
unfolding slice_type
returns-in_err-infer_optional-2 g c = first_of (grind (arith, performing), search rules)

pub returns-in_err-infer_optional-3 : goal.returns-in_err-infer_optional-3
unfolding slice_type
returns-in_err-infer_optional-3 g c = first_of (grind (arith, common_steps, performing), search rules)
