use Rattle.pyc_unit_laws.proofs.UnitLemmas.{unit_of_files}
use Rattle.pyc_unit_laws.proofs.units.unit_asks_files.Goals as goal

pub returns : goal.returns
returns c = unit_of_files
