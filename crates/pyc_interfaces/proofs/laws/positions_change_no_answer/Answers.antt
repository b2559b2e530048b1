use Rattle.pyc_interfaces.proofs.WorldLemmas.{positions_change_no_answer}
use Rattle.pyc_interfaces.proofs.laws.positions_change_no_answer.Goals as goal

pub returns : goal.returns
returns c = positions_change_no_answer
