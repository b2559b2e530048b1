use Rattle.pyc_height_laws.proofs.laws.modules_are_low.Goals as goal
use Rattle.pyc_height_laws.proofs.ModuleLemmas.{modules_are_low}

pub returns : goal.returns
returns c = modules_are_low
