use Rattle.pyc_obligations.proofs.Steps.{performing}
use Rattle.std.proofs.Common.{None, arith, rules}
use Rattle.pyc_ast.specs.ExprView.{expr_of}
use Rattle.pyc_expr_forms.specs.Names.{attribute_of, attribute_value}
use Rattle.pyc_places.specs.StateView.{state_of}
use Rattle.pyc_reading.proofs.RunLemmas.{after, grown_trans}
use Rattle.pyc_expr_forms.proofs.names.attribute_value.Goals as goal

pub returns : goal.returns
unfolding attribute_value
returns g c =
    let s = state_of c.args.state.now in
    record {
      done =
          after (g.P.InferValue.parts c.args.parts.now s (expr_of c.args.owner.now) None) (attribute_of s (expr_of c.args.whole.now) c.args.at c.args.name.now) (g.N.Ask.trace c.args.recorder.now) _ _ _ _ c.in_ok-owner.ensures.done c.in_ok-value.ensures.done;
      grown = grown_trans c.part.ensures.grown c.attribute_of.ensures.grown;
    }

pub returns-in_err-owner : goal.returns-in_err-owner
unfolding attribute_value
returns-in_err-owner g c = first_of (grind (arith, performing), search rules)

pub returns-in_err-value : goal.returns-in_err-value
unfolding attribute_value
returns-in_err-value g c = first_of (grind (arith, performing), search rules)
