use Rattle.pyc_class_laws.proofs.LawLemmas.{written_bases_kept, written_bases_known}
use Rattle.pyc_class_laws.proofs.laws.written_bases_kept.Goals as goal

pub returns-clause-sequence : goal.returns-clause-sequence
returns-clause-sequence c = written_bases_kept

pub returns-clause-known : goal.returns-clause-known
returns-clause-known c = written_bases_known
