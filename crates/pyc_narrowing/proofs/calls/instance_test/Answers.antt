use Rattle.std.proofs.lemmas.Grind.{common_steps}
use Rattle.std.proofs.Common.{◌∙◌, ap, arith, rules}
use Rattle.pyc_narrowing.proofs.Known.{tested_done}
use Rattle.pyc_narrowing.specs.SplitStates.{instance_states}
use Rattle.pyc_obligations.specs.Asking.{orders_at}
use Rattle.pyc_places.specs.StateView.{state_of}
use Rattle.pyc_reading.proofs.RunLemmas.{grown_trans}
use Rattle.pyc_type_forms.specs.TypeView.{ty_of}
use Rattle.pyc_narrowing.proofs.calls.instance_test.Goals as goal

pub returns : goal.returns
returns g c =
    let grown = grown_trans c.ask_written.ensures.grown c.ask_classes.ensures.grown in
    record {
      done =
          tested_done (state_of c.args.state.now) c.args.place.now (ty_of c.args.ty.now) c.args.classes.now _ _ _ _ c.in_ok-ask_written.ensures.done c.in_ok-ask_classes.ensures.done grown.answers
          (c.in_ok-states.ensures ∙ ap (λ n. instance_states (orders_at (g.N.Ask.trace n)) (state_of c.args.state.now) c.args.place.now (ty_of c.args.ty.now) c.args.classes.now) c.known_orders.ensures);
      grown = grown;
    }

pub returns-in_err-ask_classes : goal.returns-in_err-ask_classes
returns-in_err-ask_classes g c = first_of (grind (arith, common_steps), search rules)

pub returns-in_err-ask_written : goal.returns-in_err-ask_written
returns-in_err-ask_written g c = first_of (grind (arith, common_steps), search rules)

pub returns-in_err-states : goal.returns-in_err-states
returns-in_err-states g c = first_of (grind (arith, common_steps), search rules)
