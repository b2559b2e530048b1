use Rattle.pyc_obligations.proofs.LawLemmas.{judges_as_written}
use Rattle.pyc_obligations.proofs.laws.judges_as_written.Goals as goal

pub returns : goal.returns
returns c = judges_as_written
