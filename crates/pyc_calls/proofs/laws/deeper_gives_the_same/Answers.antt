use Rattle.pyc_calls.proofs.DepthLemmas.{deeper_gives_the_same}
use Rattle.pyc_calls.proofs.laws.deeper_gives_the_same.Goals as goal

pub returns : goal.returns
returns c = deeper_gives_the_same
