use Rattle.std.proofs.Common.{◌≡◌, ◌-◌, ◌+◌, length}
use Rattle.pyc_known_answers.specs.KnownAnswersView.{interfaces_of, known_at}
use Rattle.pyc_known_answers.proofs.known_answers.KnownAnswers.cover.Given as goal

-- no turn changes the interfaces or the answers that are known
abbrev pub invariant-loop-self : goal.invariant-loop-self
invariant-loop-self l = record {
  world : interfaces_of l.self ≡ interfaces_of l.fn.self;
  same : known_at l.self ≡ known_at l.fn.self;
}

abbrev pub decreases-loop-self : goal.decreases-loop-self
decreases-loop-self l = (l.number + 1) - length l.self.known.items
