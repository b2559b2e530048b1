use Rattle.pyc_known_answers.proofs.EqualityLemmas.{answers_decide}
use Rattle.pyc_known_answers.proofs.equality_laws.same_answers_are_equal.Goals as goal

pub returns : goal.returns
returns c = answers_decide
