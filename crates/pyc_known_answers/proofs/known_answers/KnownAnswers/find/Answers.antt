use Rattle.std.proofs.Common.{rules}
use Rattle.pyc_known_answers.specs.LookedAnswerView.{looked_in}
use Rattle.pyc_known_answers.specs.KnownAnswersView.{interfaces_of, known_at}
use Rattle.pyc_known_answers.proofs.KnownLemmas.{known_to}
use Rattle.pyc_known_answers.proofs.known_answers.KnownAnswers.find.Goals as goal

pub returns-in-Some-Some-clause-known : goal.returns-in-Some-Some-clause-known
returns-in-Some-Some-clause-known c = search rules

pub returns-in-Some-Some-clause-answer : goal.returns-in-Some-Some-clause-answer
returns-in-Some-Some-clause-answer c =
    let self = c.args.self.now in
    λ keys key are held.
    known_to (interfaces_of self) keys (known_at self) c.args.id (looked_in c.in-Some-Some.answer.value) key are held
    (returns-in-Some-Some-clause-known c)
