use Rattle.pyc_unit_laws.proofs.ClassLemmas.{subclass_asks}
use Rattle.pyc_unit_laws.proofs.classes.subclass_asks.Goals as goal

pub returns : goal.returns
returns c = subclass_asks
