use Rattle.std.proofs.lemmas.Grind.{common_steps}
use Rattle.pyc_displays.specs.Displays.{more_entries}
use Rattle.pyc_obligations.proofs.Steps.{performing}
use Rattle.std.proofs.Common.{◌∙◌, arith, rules}
use Rattle.pyc_displays.proofs.Turns.{entry_turn}
use Rattle.pyc_displays.specs.Views.{entry_types_in}
use Rattle.pyc_reading.proofs.RunLemmas.{grown_trans}
use Rattle.pyc_displays.proofs.dicts.read_entries.Goals as goal

pub loop-item-preserved : goal.loop-item-preserved
loop-item-preserved g c = record {
  same =
      entry_turn (g.R.InferType.reads c.args.reader.now) (entry_types_in c.loop-item.types) _ c.args.items.now c.loop-item.item-index c.item-item.result _ _ _ c.loop-item-test.true c.item-item.is c.in_ok-found.ensures.done c.in_ok-push_entry.ensures
      ∙ c.loop-item.invariant.same;
  grown = grown_trans c.loop-item.invariant.grown c.free_entry.ensures.grown;
}

pub returns-in_err-with_capacity : goal.returns-in_err-with_capacity
unfolding more_entries
returns-in_err-with_capacity g c = first_of (grind (arith, performing), search rules)

pub returns-in_err-with_capacity-2 : goal.returns-in_err-with_capacity-2
unfolding more_entries
returns-in_err-with_capacity-2 g c = first_of (grind (arith, performing), search rules)

pub returns-in_err-found : goal.returns-in_err-found
unfolding more_entries
returns-in_err-found g c = first_of (grind (arith, performing), search rules)

pub returns-in_err-push_entry : goal.returns-in_err-push_entry
unfolding more_entries
returns-in_err-push_entry g c = first_of (grind (arith, performing), search rules)

pub loop-item-init : goal.loop-item-init
unfolding more_entries
loop-item-init g c = first_of (grind (arith, performing), search rules)

pub returns : goal.returns
unfolding more_entries
returns g c = first_of (grind (arith, common_steps, performing), search rules)
