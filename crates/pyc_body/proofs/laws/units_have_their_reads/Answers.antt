use Rattle.pyc_body.proofs.ReadLemmas.{units_have_their_reads}
use Rattle.pyc_body.proofs.laws.units_have_their_reads.Goals as goal

pub returns : goal.returns
returns c = units_have_their_reads
