use Rattle.pyc_known_answers.proofs.CarryLemmas.{known_carries}
use Rattle.pyc_known_answers.proofs.laws.carry_over.Goals as goal

pub returns : goal.returns
returns c = known_carries
