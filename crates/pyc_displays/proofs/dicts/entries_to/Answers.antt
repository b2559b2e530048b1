use Rattle.std.proofs.lemmas.Grind.{common_steps}
use Rattle.pyc_displays.specs.Displays.{entries_to}
use Rattle.pyc_obligations.proofs.Steps.{performing}
use Rattle.std.proofs.Common.{◌∙◌, arith, rules}
use Rattle.pyc_displays.proofs.Turns.{entry_to_turn}
use Rattle.pyc_displays.specs.Views.{entry_in}
use Rattle.pyc_reading.proofs.RunLemmas.{grown_trans}
use Rattle.pyc_displays.proofs.dicts.entries_to.Goals as goal

pub loop-index-preserved : goal.loop-index-preserved
loop-index-preserved g c = record {
  same =
      entry_to_turn (g.R.InferType.reads c.args.reader.now) (entry_in c.args.want.now) c.args.items.now c.loop-index.index c.index-items-index.result _ _ _ c.loop-index-test.true c.index-items-index.is c.in_ok-check_entry_types.ensures.done
      ∙ c.loop-index.invariant.same;
  grown = grown_trans c.loop-index.invariant.grown c.check_entry_types.ensures.grown;
}

pub returns-in_err-check_entry_types : goal.returns-in_err-check_entry_types
unfolding entries_to
returns-in_err-check_entry_types g c = first_of (grind (arith, performing), search rules)

pub loop-index-init : goal.loop-index-init
unfolding entries_to
loop-index-init g c = first_of (grind (arith, performing), search rules)

pub returns : goal.returns
unfolding entries_to
returns g c = first_of (grind (arith, common_steps, performing), search rules)
