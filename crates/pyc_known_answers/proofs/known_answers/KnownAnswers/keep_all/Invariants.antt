use Rattle.std.proofs.Common.{◌≡◌, List, length, map}
use Rattle.std.specs.Vec.Iter.{into_iter_items, into_iter_len}
use Rattle.pyc_keys.specs.Numbering.{AreOf, Numbering}
use Rattle.pyc_reading.specs.Keys.{Key}
use Rattle.pyc_known_answers.specs.LookedAnswerView.{looked_in}
use Rattle.pyc_known_answers.specs.KnownAnswersView.{interfaces_of, known_at, HavePlaces, IsOver}
use Rattle.pyc_known_answers.specs.KnownAnswers.{with_items}
use Rattle.pyc_known_answers.specs.LookedAnswers.{AreAnswersOf}
use Rattle.pyc_known_answers.proofs.KnownLemmas.{AreLeft}
use Rattle.pyc_known_answers.proofs.known_answers.KnownAnswers.keep_all.Given as goal

-- the answers so far are kept, and those that are left are the ones to the keys of the numbers that are left
abbrev pub invariant-loop-answer : goal.invariant-loop-answer
invariant-loop-answer l = record {
  world : interfaces_of l.self ≡ interfaces_of l.fn.self;
  count : into_iter_len l.answer-iterator ≡ length (into_iter_items l.answer-iterator);
  places : HavePlaces l.fn.self l.fn.ids → HavePlaces l.self l.rest;
  known : HavePlaces l.fn.self l.fn.ids
      → with_items (known_at l.self) l.rest (map (λ answer. looked_in answer.value) (into_iter_items l.answer-iterator))
      ≡ with_items (known_at l.fn.self) l.fn.ids (map (λ answer. looked_in answer.value) l.fn.answers.items);
  over : (keys : Numbering Key) (asked : List Key) → IsOver keys l.fn.self → AreOf keys l.fn.ids asked
      → AreAnswersOf (interfaces_of l.fn.self) asked (map (λ answer. looked_in answer.value) l.fn.answers.items)
      → IsOver keys l.self × AreLeft keys (λ answer. looked_in answer.value) (interfaces_of l.fn.self) l.rest (into_iter_items l.answer-iterator);
}
