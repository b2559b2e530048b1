use Rattle.std.proofs.Common.{◌≡◌, ◌++◌, map}
use Rattle.indexmap.specs.IndexMap.{values}
use Rattle.pyc_known_answers.specs.LookedAnswerView.{looked_in}
use Rattle.pyc_recorder.proofs.unit_trace.answers_in_order.Given as goal

-- the answers so far, with those that are left, are all
abbrev pub invariant-loop-answer : goal.invariant-loop-answer
invariant-loop-answer l =
    map (λ answer. looked_in answer.value) l.answers_in_order.items ++ map (λ answer. looked_in answer.value) l.answer-iterator
    ≡ map (λ answer. looked_in answer.value) (values l.fn.kept)
