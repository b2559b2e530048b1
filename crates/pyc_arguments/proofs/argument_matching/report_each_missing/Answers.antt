use Rattle.std.proofs.lemmas.Grind.{common_steps}
use Rattle.pyc_obligations.proofs.Steps.{performing}
use Rattle.std.proofs.Common.{◌∙◌, map, refl, sym, arith, rules}
use Rattle.pyc_arguments.specs.Matched.{missing_reported}
use Rattle.pyc_arguments.specs.Views.{call_in}
use Rattle.pyc_matching.specs.Views.{missing_in}
use Rattle.pyc_reading.proofs.RunLemmas.{one_turn, grown_trans}
use Rattle.pyc_reading.specs.Readings.{each}
use Rattle.pyc_arguments.proofs.argument_matching.report_each_missing.Goals as goal

pub loop-missing-preserved : goal.loop-missing-preserved
loop-missing-preserved g c =
    let reported = missing_reported (call_in c.args.call.now) in
    record {
      same =
          sym (one_turn (λ l. each reported (map missing_in l)) (λ x. reported (missing_in x)) (λ u l. each reported (map missing_in l)) (λ x xs. refl) c.args.found.now c.loop-missing.missing-index c.missing-item.result _ _ _ c.loop-missing-test.true c.missing-item.is c.in_ok-report_missing.ensures.done)
          ∙ c.loop-missing.invariant.same;
      grown = grown_trans c.loop-missing.invariant.grown c.report_missing.ensures.grown;
    }

pub returns-in_err-report_missing : goal.returns-in_err-report_missing
returns-in_err-report_missing g c = first_of (grind (arith, performing), search rules)

pub loop-missing-init : goal.loop-missing-init
loop-missing-init g c = first_of (grind (arith, performing), search rules)

pub returns : goal.returns
returns g c = first_of (grind (arith, common_steps, performing), search rules)
