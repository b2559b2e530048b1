use Rattle.pyc_class_laws.proofs.LineLemmas.{single_bases_make_a_line}
use Rattle.pyc_class_laws.proofs.laws.single_bases_in_line.Goals as goal

pub returns : goal.returns
returns c = single_bases_make_a_line
