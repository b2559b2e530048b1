use Rattle.pyc_obligations.proofs.Steps.{performing}
use Rattle.std.proofs.Common.{sym, ◌∙◌, refl, arith, rules}
use Rattle.std.proofs.lemmas.Grind.{common_steps}
use Rattle.pyc_overrides.specs.Overrides.{name_read}
use Rattle.pyc_overrides.specs.Views.{subclass_of}
use Rattle.pyc_reading.specs.Readings.{each}
use Rattle.pyc_reading.proofs.RunLemmas.{one_turn, grown_trans}
use Rattle.pyc_overrides.proofs.overrides.read_names.Goals as goal

pub loop-name-preserved : goal.loop-name-preserved
loop-name-preserved g c =
    let read = name_read (subclass_of c.args.subclass.now) in
    record {
      same =
          sym (one_turn (each read) read (λ u xs. each read xs) (λ x xs. refl) c.args.names.now c.loop-name.name-index _ _ _ _ c.loop-name-test.true c.name-item.is c.in_ok-read_name.ensures.done)
          ∙ c.loop-name.invariant.same;
      grown = grown_trans c.loop-name.invariant.grown c.read_name.ensures.grown;
    }

pub loop-name-init : goal.loop-name-init
loop-name-init g c = first_of (grind (arith, performing), search rules)

pub returns : goal.returns
returns g c = first_of (grind (arith, common_steps, performing), search rules)

pub returns-in_err-read_name : goal.returns-in_err-read_name
returns-in_err-read_name g c = first_of (grind (arith, performing), search rules)
