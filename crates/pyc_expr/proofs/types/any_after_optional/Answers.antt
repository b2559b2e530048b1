use Rattle.std.proofs.Common.{ap}
use Rattle.pyc_ast.specs.ExprView.{optional_of}
use Rattle.pyc_calls.proofs.Kept.{any_in}
use Rattle.pyc_expr_forms.specs.Subscripting.{infer_optional}
use Rattle.pyc_expr.specs.Values.{any_after}
use Rattle.pyc_places.specs.StateView.{state_of}
use Rattle.pyc_reading.proofs.RunLemmas.{after}
use Rattle.pyc_reading.specs.Readings.{Done}
use Rattle.pyc_type_forms.specs.Types.{any}
use Rattle.pyc_expr.proofs.types.any_after_optional.Goals as goal

pub returns : goal.returns
unfolding any_after
returns g c = record {
  done =
      after (infer_optional (g.P.InferValue.parts c.args.parts.now) (state_of c.args.state.now) (optional_of c.args.part.now)) (λ u. Done any) (g.N.Ask.trace c.args.recorder.now) _ _ _ _ c.in_ok-infer_optional.ensures.done
      (ap (λ ty. (ty, g.N.Ask.trace c.infer_optional.new.recorder)) any_in);
  grown = c.infer_optional.ensures.grown;
}
