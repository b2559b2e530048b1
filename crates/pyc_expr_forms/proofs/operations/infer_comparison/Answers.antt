use Rattle.pyc_obligations.proofs.Steps.{performing}
use Rattle.std.proofs.Common.{◌≡◌, None, ap, refl, ◌∙◌, rules, arith}
use Rattle.pyc_ast.specs.declared.expr.DictItem.TheFolds.{the_lemmas}
use Rattle.pyc_ast.specs.Exprs.{Comparison, comparison}
use Rattle.pyc_ast.specs.ExprView.{expr_of, comparison_of}
use Rattle.pyc_calls.specs.Methods.{infer_method_call}
use Rattle.pyc_expr_forms.specs.Contexts.{type_in}
use Rattle.pyc_expr_forms.specs.Operations.{infer_comparison}
use Rattle.pyc_operators.specs.Binary.{check_comparison}
use Rattle.pyc_places.specs.StateView.{state_of}
use Rattle.pyc_reading.proofs.RunLemmas.{after, grown_trans}
use Rattle.pyc_reading.specs.Traces.{run}
use Rattle.pyc_reading.specs.Readings.{Done, and_then}
use Rattle.pyc_type_forms.specs.TypeView.{ty_of}
use Rattle.pyc_expr_forms.proofs.operations.infer_comparison.Goals as goal

pub returns : goal.returns
unfolding infer_comparison
returns g c =
    let s = state_of c.args.state.now in
    let parts = g.P.InferValue.parts c.args.parts.now in
    let trace = g.N.Ask.trace c.args.recorder.now in
    let left = ty_of c.args.left.now in
    let operator = c.args.link.now.operator in
    let right = ty_of c.in_ok-right.right in
    let link : comparison_of c.args.link.now ≡ comparison operator (expr_of c.args.link.now.right) = search (rules, the_lemmas) in
    record {
      done =
          ap (λ (x : Comparison). run (infer_comparison parts s c.args.at left x) trace) link
          ∙ after (type_in parts s (expr_of c.args.link.now.right) None) (λ r. and_then (check_comparison infer_method_call c.args.at operator left r) (λ u. Done r)) trace _ _ _ _ c.in_ok-right.ensures.done
          (after (check_comparison infer_method_call c.args.at operator left right) (λ u. Done right) _ _ _ _ _ c.in_ok-check_comparison.ensures.done refl);
      grown = grown_trans c.type_in.ensures.grown c.check_comparison.ensures.grown;
    }

pub returns-in_err-right : goal.returns-in_err-right
unfolding infer_comparison
returns-in_err-right g c = first_of (grind (arith, performing), search rules)

pub returns-in_err-check_comparison : goal.returns-in_err-check_comparison
unfolding infer_comparison
returns-in_err-check_comparison g c = first_of (grind (arith, performing), search rules)
