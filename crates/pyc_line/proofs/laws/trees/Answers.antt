use Rattle.pyc_line.proofs.ParseLaws.{reads_exactly}
use Rattle.pyc_line.proofs.laws.trees.Goals as goal

pub returns : goal.returns
returns c = reads_exactly
