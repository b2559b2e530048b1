use Rattle.std.proofs.Common.{◌∙◌, ap}
use Rattle.pyc_known_answers.specs.LookedAnswerView.{looked_in}
use Rattle.pyc_known_answers.proofs.SlotLemmas.{at_slot, with_place}
use Rattle.pyc_known_answers.proofs.known_answers.KnownAnswers.cover.Goals as goal

pub loop-self-preserved : goal.loop-self-preserved
loop-self-preserved c = record {
  world = c.loop-self.invariant.world;
  same = ap (at_slot (λ shared. looked_in shared.value)) c.in_ok-push.ensures.items
      ∙ with_place (λ shared. looked_in shared.value) c.loop-self.self.known.items
      ∙ c.loop-self.invariant.same;
}

pub returns-in_err-push-clause-same : goal.returns-in_err-push-clause-same
returns-in_err-push-clause-same c =
    ap (at_slot (λ shared. looked_in shared.value)) c.in_err-push.ensures.items ∙ c.loop-self.invariant.same
