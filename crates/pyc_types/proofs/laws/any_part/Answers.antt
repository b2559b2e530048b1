use Rattle.pyc_types.proofs.AnyLemmas.{any_part_holds}
use Rattle.pyc_types.proofs.laws.any_part.Goals as goal

pub returns : goal.returns
returns c = any_part_holds
