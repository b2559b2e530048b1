use Rattle.pyc_units.proofs.Steps.{performing}
use Rattle.std.proofs.Common.{map, sym, ◌∙◌, refl, arith, rules}
use Rattle.std.proofs.lemmas.Grind.{common_steps}
use Rattle.pyc_annotations.specs.Views.{base_of}
use Rattle.pyc_units.specs.DefinitionReadings.{base_reading}
use Rattle.pyc_reading.specs.Readings.{each}
use Rattle.pyc_reading.proofs.RunLemmas.{one_turn, grown_trans}
use Rattle.pyc_units.proofs.definitions.read_base_orders.Goals as goal

pub loop-base-preserved : goal.loop-base-preserved
loop-base-preserved g c =
    let read = base_reading in
    record {
      same =
          sym (one_turn (λ xs. each read (map base_of xs)) (λ x. read (base_of x)) (λ u xs. each read (map base_of xs)) (λ x xs. refl) c.args.bases.now c.loop-base.base-index _ _ _ _ c.loop-base-test.true c.base-item.is c.in_ok-read_base_order.ensures.done)
          ∙ c.loop-base.invariant.same;
      grown = grown_trans c.loop-base.invariant.grown c.read_base_order.ensures.grown;
    }

pub loop-base-init : goal.loop-base-init
loop-base-init g c = first_of (grind (arith, performing), search rules)

pub returns : goal.returns
returns g c = first_of (grind (arith, common_steps, performing), search rules)

pub returns-in_err-read_base_order : goal.returns-in_err-read_base_order
returns-in_err-read_base_order g c = first_of (grind (arith, performing), search rules)
