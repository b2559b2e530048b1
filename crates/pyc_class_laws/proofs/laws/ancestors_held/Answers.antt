use Rattle.pyc_class_laws.proofs.LawLemmas.{ancestors_held}
use Rattle.pyc_class_laws.proofs.laws.ancestors_held.Goals as goal

pub returns : goal.returns
returns c = ancestors_held
