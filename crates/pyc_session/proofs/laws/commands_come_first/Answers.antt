use Rattle.pyc_session.proofs.Turns.{commands_first}
use Rattle.pyc_session.proofs.laws.commands_come_first.Goals as goal

pub returns : goal.returns
returns c = commands_first
