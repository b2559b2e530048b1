use Rattle.pyc_obligations.proofs.Steps.{performing}
use Rattle.std.proofs.Common.{map, sym, ◌∙◌, refl, arith, rules}
use Rattle.std.proofs.lemmas.Grind.{common_steps}
use Rattle.pyc_bindings.specs.RedefinitionView.{redefinition_of}
use Rattle.pyc_functions.specs.Redefined.{redefinition_reading}
use Rattle.pyc_reading.specs.Readings.{each}
use Rattle.pyc_reading.proofs.RunLemmas.{one_turn, grown_trans}
use Rattle.pyc_functions.proofs.redefined.report_redefinitions.Goals as goal

pub loop-found-preserved : goal.loop-found-preserved
loop-found-preserved g c =
    let read = redefinition_reading in
    record {
      same =
          sym (one_turn (λ xs. each read (map redefinition_of xs)) (λ x. read (redefinition_of x)) (λ u xs. each read (map redefinition_of xs)) (λ x xs. refl) c.args.again.now c.loop-found.found-index _ _ _ _ c.loop-found-test.true c.found-item.is c.in_ok-report_redefinition.ensures.done)
          ∙ c.loop-found.invariant.same;
      grown = grown_trans c.loop-found.invariant.grown c.report_redefinition.ensures.grown;
    }

pub loop-found-init : goal.loop-found-init
loop-found-init g c = first_of (grind (arith, performing), search rules)

pub returns : goal.returns
returns g c = first_of (grind (arith, common_steps, performing), search rules)

pub returns-in_err-report_redefinition : goal.returns-in_err-report_redefinition
returns-in_err-report_redefinition g c = first_of (grind (arith, performing), search rules)
