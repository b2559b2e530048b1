use Rattle.std.proofs.lemmas.Grind.{common_steps}
use Rattle.pyc_obligations.proofs.Steps.{performing}
use Rattle.std.proofs.Common.{arith, rules}
use Rattle.pyc_ast.specs.ExprView.{expr_of}
use Rattle.pyc_narrowing.specs.Splitting.{look_quietly, classes_at, test_by, isinstance_rule}
use Rattle.pyc_places.specs.StateView.{state_of}
use Rattle.pyc_reading.proofs.RunLemmas.{after, grown_trans}
use Rattle.pyc_reading.specs.Readings.{and_then}
use Rattle.pyc_type_forms.specs.TypeView.{ty_of}
use Rattle.pyc_narrowing.proofs.calls.isinstance_states.Goals as goal

pub returns : goal.returns
unfolding isinstance_rule
returns g c =
    let look = g.L.InferOperand.looks c.args.looks.now in
    let s = state_of c.args.state.now in
    let classes = classes_at look s (expr_of c.args.classes.now) in
    record {
      done =
          after (look_quietly look s (expr_of c.args.tested.now)) (λ found. and_then classes (test_by s c.args.place.now found.ty)) _ _ _ _ _ c.in_ok-found.ensures.done
          (after classes (test_by s c.args.place.now (ty_of c.in_ok-found.found.ty)) _ _ _ _ _ c.in_ok-classes.ensures.done c.in_ok-states.ensures.done);
      grown = grown_trans (grown_trans c.look_quietly.ensures.grown c.classes_at.ensures.grown) c.test_by.ensures.grown;
    }

pub returns-in_err-found : goal.returns-in_err-found
unfolding isinstance_rule
returns-in_err-found g c = first_of (grind (arith, performing), search rules)

pub returns-in_err-classes : goal.returns-in_err-classes
unfolding isinstance_rule
returns-in_err-classes g c = first_of (grind (arith, performing), search rules)

pub returns-in_err-states : goal.returns-in_err-states
unfolding isinstance_rule
returns-in_err-states g c = first_of (grind (arith, common_steps, performing), search rules)
