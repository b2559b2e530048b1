use Rattle.pyc_unit_laws.proofs.ClassLemmas.{override_asks}
use Rattle.pyc_unit_laws.proofs.classes.override_asks.Goals as goal

pub returns : goal.returns
returns c = override_asks
