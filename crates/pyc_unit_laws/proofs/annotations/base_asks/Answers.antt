use Rattle.pyc_unit_laws.proofs.AnnotationLemmas.{base_asks}
use Rattle.pyc_unit_laws.proofs.annotations.base_asks.Goals as goal

pub returns : goal.returns
returns c = base_asks
