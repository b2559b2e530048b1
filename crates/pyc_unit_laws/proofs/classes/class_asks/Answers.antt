use Rattle.pyc_unit_laws.proofs.ClassLemmas.{class_asks}
use Rattle.pyc_unit_laws.proofs.classes.class_asks.Goals as goal

pub returns : goal.returns
returns c = class_asks
