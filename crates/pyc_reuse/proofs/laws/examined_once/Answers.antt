use Rattle.pyc_reuse.proofs.OnceLemmas.{examined_once}
use Rattle.pyc_reuse.proofs.laws.examined_once.Goals as goal

pub returns : goal.returns
returns c = examined_once
