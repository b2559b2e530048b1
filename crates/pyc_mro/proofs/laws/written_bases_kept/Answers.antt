use Rattle.pyc_mro.proofs.LawLemmas.{keeps_written_bases}
use Rattle.pyc_mro.proofs.laws.written_bases_kept.Goals as goal

pub returns : goal.returns
returns c = keeps_written_bases
