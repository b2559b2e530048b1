use Rattle.std.proofs.Common.{◌∙◌, ap, arith, if◌then◌else◌}
use Rattle.pyc_keys.specs.KeyNumbers.{key_at}
use Rattle.pyc_keys.specs.Numbering.{without}
use Rattle.pyc_known_answers.specs.LookedAnswerView.{looked_in}
use Rattle.pyc_known_answers.specs.KnownAnswersView.{interfaces_of, known_at}
use Rattle.pyc_known_answers.specs.KnownAnswers.{restrict_to_held}
use Rattle.pyc_known_answers.proofs.SlotLemmas.{passed_next, passed_whole}
use Rattle.pyc_known_answers.proofs.KnownLemmas.{over_same, stay_with_fewer_keys}
use Rattle.pyc_known_answers.proofs.known_answers.KnownAnswers.keep_held.Goals as goal

pub loop-number-preserved : goal.loop-number-preserved
loop-number-preserved c = record {
  world = c.release_unless.ensures.world ∙ c.loop-number.invariant.world;
  passed =
      passed_next (key_at c.args.keys.now) c.loop-number.number (known_at c.args.self.now) (known_at c.loop-number.self)
      (known_at c.release_unless.new.self) c.loop-number.invariant.passed
      (c.release_unless.ensures.known
      ∙ ap (λ b. if b then known_at c.loop-number.self else without (known_at c.loop-number.self) c.loop-number.number) c.holds.ensures);
}

pub returns-clause-known : goal.returns-clause-known
returns-clause-known c =
    passed_whole (λ shared. looked_in shared.value) (key_at c.args.keys.now) c.args.self.now.known.items c.loop-number.number (known_at c.loop-number.self) c.loop-number.invariant.passed
    (omega (arith, c.loop-number-test.false, c.len-number-end.ensures, c.loop-number.auto.number-end))

pub returns-clause-over : goal.returns-clause-over
returns-clause-over c =
    let self = c.args.self.now in
    let keys = key_at c.args.keys.now in
    λ before fewer are.
    over_same (interfaces_of self) (interfaces_of c.loop-number.self) keys (restrict_to_held keys (known_at self)) (known_at c.loop-number.self)
    c.loop-number.invariant.world
    (passed_whole (λ shared. looked_in shared.value) keys self.known.items c.loop-number.number (known_at c.loop-number.self) c.loop-number.invariant.passed
    (omega (arith, c.loop-number-test.false, c.len-number-end.ensures, c.loop-number.auto.number-end)))
    (stay_with_fewer_keys (interfaces_of self) before keys (known_at self) fewer are)
