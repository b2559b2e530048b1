use Rattle.pyc_narrowing_laws.proofs.StateLemmas.{joined_keeps}
use Rattle.pyc_narrowing_laws.proofs.laws.joined_ways.Goals as goal

pub returns : goal.returns
returns c = joined_keeps
