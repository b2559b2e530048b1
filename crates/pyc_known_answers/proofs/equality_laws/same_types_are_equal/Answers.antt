use Rattle.pyc_known_answers.proofs.EqualityLemmas.{types_decide}
use Rattle.pyc_known_answers.proofs.equality_laws.same_types_are_equal.Goals as goal

pub returns : goal.returns
returns c = types_decide
