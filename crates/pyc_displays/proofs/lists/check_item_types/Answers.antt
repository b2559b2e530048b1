use Rattle.std.proofs.lemmas.Grind.{common_steps}
use Rattle.pyc_displays.specs.Displays.{check_item_types}
use Rattle.pyc_obligations.proofs.Steps.{performing}
use Rattle.std.proofs.Common.{◌∙◌, arith, rules}
use Rattle.pyc_displays.proofs.Turns.{item_turn}
use Rattle.pyc_reading.proofs.RunLemmas.{grown_trans}
use Rattle.pyc_type_forms.specs.TypeView.{ty_of}
use Rattle.pyc_displays.proofs.lists.check_item_types.Goals as goal

pub loop-index-preserved : goal.loop-index-preserved
loop-index-preserved g c = record {
  same =
      item_turn (g.R.InferType.reads c.args.reader.now) (ty_of c.args.want.now) c.args.items.now c.loop-index.index c.index-items-index.result _ _ _ c.loop-index-test.true c.index-items-index.is c.in_ok-check_item_type.ensures.done
      ∙ c.loop-index.invariant.same;
  grown = grown_trans c.loop-index.invariant.grown c.check_item_type.ensures.grown;
}

pub returns-in_err-check_item_type : goal.returns-in_err-check_item_type
unfolding check_item_types
returns-in_err-check_item_type g c = first_of (grind (arith, performing), search rules)

pub loop-index-init : goal.loop-index-init
unfolding check_item_types
loop-index-init g c = first_of (grind (arith, performing), search rules)

pub returns : goal.returns
unfolding check_item_types
returns g c = first_of (grind (arith, common_steps, performing), search rules)
