use Rattle.std.proofs.Common.{◌≡◌}
use Rattle.pyc_keys.specs.KeyNumbers.{key_at}
use Rattle.pyc_known_answers.specs.KnownAnswersView.{interfaces_of, known_at}
use Rattle.pyc_known_answers.proofs.SlotLemmas.{Passed}
use Rattle.pyc_known_answers.proofs.known_answers.KnownAnswers.keep_held.Given as goal

-- up to this number just the answers of held ones are left
abbrev pub invariant-loop-number : goal.invariant-loop-number
invariant-loop-number l = record {
  world : interfaces_of l.self ≡ interfaces_of l.fn.self;
  passed : Passed (key_at l.keys) l.number (known_at l.fn.self) (known_at l.self);
}
