use Rattle.std.proofs.lemmas.Grind.{common_steps}
use Rattle.pyc_obligations.proofs.Steps.{performing}
use Rattle.std.proofs.Common.{◌∙◌, sym, refl, arith, rules}
use Rattle.pyc_obligations.specs.Judging.{class_asked, classes_asked}
use Rattle.pyc_reading.proofs.RunLemmas.{one_turn, grown_trans}
use Rattle.pyc_narrowing.proofs.classes.ask_classes.Goals as goal

pub loop-class-preserved : goal.loop-class-preserved
loop-class-preserved g c = record {
  same =
      sym (one_turn classes_asked class_asked (λ u xs. classes_asked xs) (λ x xs. refl) c.args.classes.now c.loop-class.class-index _ _ _ _ c.loop-class-test.true c.class-item.is c.in_ok-ask_class.ensures.done)
      ∙ c.loop-class.invariant.same;
  grown = grown_trans c.loop-class.invariant.grown c.ask_class.ensures.grown;
}

pub returns-in_err-ask_class : goal.returns-in_err-ask_class
returns-in_err-ask_class g c = first_of (grind (arith, performing), search rules)

pub loop-class-init : goal.loop-class-init
loop-class-init g c = first_of (grind (arith, performing), search rules)

pub returns : goal.returns
returns g c = first_of (grind (arith, common_steps, performing), search rules)
