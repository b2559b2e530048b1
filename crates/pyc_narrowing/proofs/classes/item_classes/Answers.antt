use Rattle.std.proofs.lemmas.Grind.{common_steps}
use Rattle.pyc_narrowing.specs.Splitting.{more_classes}
use Rattle.pyc_obligations.proofs.Steps.{performing}
use Rattle.std.proofs.Common.{◌∙◌, ap, sym, arith, rules}
use Rattle.pyc_narrowing.proofs.Turns.{class_turn, last_turn}
use Rattle.pyc_places.specs.StateView.{state_of}
use Rattle.pyc_reading.proofs.RunLemmas.{grown_trans}
use Rattle.pyc_narrowing.proofs.classes.item_classes.Goals as goal

pub loop-item-preserved : goal.loop-item-preserved
loop-item-preserved g c = record {
  same =
      class_turn (g.L.InferOperand.looks c.args.looks.now) (state_of c.args.state.now) c.loop-item.classes.items _ c.args.items.now c.loop-item.item-index c.item-item.result c.in-Some.class _ (g.N.Ask.trace c.item_class.new.recorder) c.loop-item-test.true c.item-item.is
      (c.in_ok-class.ensures.done ∙ ap (λ class. (class, g.N.Ask.trace c.item_class.new.recorder)) c.in-Some.is) c.in_ok-push-in-Some.ensures.items
      ∙ c.loop-item.invariant.same;
  grown = grown_trans c.loop-item.invariant.grown c.item_class.ensures.grown;
}

pub returns-in-None : goal.returns-in-None
returns-in-None g c = record {
  done =
      sym c.loop-item.invariant.same
      ∙ last_turn (g.L.InferOperand.looks c.args.looks.now) (state_of c.args.state.now) c.loop-item.classes.items c.args.items.now c.loop-item.item-index c.item-item.result _ (g.N.Ask.trace c.item_class.new.recorder) c.loop-item-test.true c.item-item.is
      (c.in_ok-class.ensures.done ∙ ap (λ class. (class, g.N.Ask.trace c.item_class.new.recorder)) c.in-None.is);
  grown = grown_trans c.loop-item.invariant.grown c.item_class.ensures.grown;
}

pub returns-in_err-classes : goal.returns-in_err-classes
unfolding more_classes
returns-in_err-classes g c = first_of (grind (arith, performing), search rules)

pub returns-in_err-class : goal.returns-in_err-class
unfolding more_classes
returns-in_err-class g c = first_of (grind (arith, performing), search rules)

pub returns-in_err-push-in-Some : goal.returns-in_err-push-in-Some
unfolding more_classes
returns-in_err-push-in-Some g c = first_of (grind (arith, performing), search rules)

pub loop-item-init : goal.loop-item-init
unfolding more_classes
loop-item-init g c = first_of (grind (arith, performing), search rules)

pub returns : goal.returns
unfolding more_classes
returns g c = first_of (grind (arith, common_steps, performing), search rules)
