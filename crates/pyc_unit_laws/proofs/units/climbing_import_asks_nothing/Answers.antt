use Rattle.pyc_unit_laws.proofs.UnitLemmas.{climbing_module_path, climbing_import}
use Rattle.pyc_unit_laws.proofs.units.climbing_import_asks_nothing.Goals as goal

pub returns-clause-module_path : goal.returns-clause-module_path
returns-clause-module_path c = climbing_module_path

pub returns-clause-keys : goal.returns-clause-keys
returns-clause-keys c = climbing_import
