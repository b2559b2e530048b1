use Rattle.pyc_types.proofs.ItselfLemmas.{is_reflexive}
use Rattle.pyc_types.proofs.laws.reflexive.Goals as goal

pub returns : goal.returns
returns c = is_reflexive
