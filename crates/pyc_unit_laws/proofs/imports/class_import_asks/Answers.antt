use Rattle.pyc_unit_laws.proofs.ImportLemmas.{class_import_asks}
use Rattle.pyc_unit_laws.proofs.imports.class_import_asks.Goals as goal

pub returns : goal.returns
returns c = class_import_asks
