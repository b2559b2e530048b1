use Rattle.pyc_obligations.proofs.Steps.{performing}
use Rattle.std.proofs.Common.{map, ap, sym, ◌∙◌, arith, rules}
use Rattle.pyc_arguments.specs.Reporting.{CalleeName}
use Rattle.pyc_ast.specs.ExprView.{expr_of, argument_of}
use Rattle.pyc_expr_forms.specs.CallValues.{infer_value_call, infer_member_call, shown_attribute}
use Rattle.pyc_expr_forms.specs.Names.{attribute_of}
use Rattle.pyc_obligations.specs.ValueView.{value_of}
use Rattle.pyc_places.specs.StateView.{state_of}
use Rattle.pyc_reading.proofs.RunLemmas.{after, grown_trans}
use Rattle.pyc_reading.specs.Traces.{run}
use Rattle.pyc_expr_forms.proofs.call_values.infer_member_call.Goals as goal

pub returns : goal.returns
unfolding infer_member_call
returns g c =
    let s = state_of c.args.state.now in
    let context = g.C.Context.context c.args.context.now in
    let parts = g.P.InferValue.parts c.args.parts.now in
    let given = map argument_of c.args.arguments.now in
    let name = c.args.name.now in
    let owner = value_of c.args.owner.now in
    record {
      done =
          after (attribute_of s (expr_of c.args.callee.now) c.args.callee.now.inside name owner) (infer_value_call context parts s c.args.at given (shown_attribute name owner.ty)) (g.N.Ask.trace c.args.recorder.now) _ _ _ _ c.in_ok-found.ensures.done
          (ap (λ (shown : CalleeName). run (infer_value_call context parts s c.args.at given shown (value_of c.in_ok-found.found)) (g.N.Ask.trace c.attribute_of.new.recorder)) (sym c.shown_attribute-shown.ensures)
          ∙ c.in_ok-ty.ensures.done);
      grown = grown_trans c.attribute_of.ensures.grown c.infer_value_call.ensures.grown;
    }

pub returns-in_err-found : goal.returns-in_err-found
unfolding infer_member_call
returns-in_err-found g c = first_of (grind (arith, performing), search rules)

pub returns-in_err-ty : goal.returns-in_err-ty
unfolding infer_member_call
returns-in_err-ty g c = first_of (grind (arith, performing), search rules)
