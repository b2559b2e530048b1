use Rattle.pyc_unit_laws.proofs.AnnotationLemmas.{annotation_asks}
use Rattle.pyc_unit_laws.proofs.annotations.annotation_asks.Goals as goal

pub returns : goal.returns
returns c = annotation_asks
