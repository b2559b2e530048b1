use Rattle.pyc_types.proofs.GoingLemmas.{found_is}
use Rattle.pyc_types.proofs.assigning.going.instance_goes_at.Goals as goal

pub returns-then-is_found : goal.returns-then-is_found
returns-then-is_found g c = found_is _ _ c.is_found.ensures c.if-is_found.true
