use Rattle.pyc_unit_laws.proofs.ImportLemmas.{import_asks}
use Rattle.pyc_unit_laws.proofs.imports.import_asks.Goals as goal

pub returns : goal.returns
returns c = import_asks
