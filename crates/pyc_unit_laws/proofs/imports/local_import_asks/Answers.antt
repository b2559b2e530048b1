use Rattle.pyc_unit_laws.proofs.ImportLemmas.{local_import_asks}
use Rattle.pyc_unit_laws.proofs.imports.local_import_asks.Goals as goal

pub returns : goal.returns
returns c = local_import_asks
