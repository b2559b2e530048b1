use Rattle.pyc_narrowing_laws.proofs.LookLemmas.{narrowed_types_are_right}
use Rattle.pyc_narrowing_laws.proofs.laws.looked_up_types.Goals as goal

pub returns : goal.returns
returns c = narrowed_types_are_right
