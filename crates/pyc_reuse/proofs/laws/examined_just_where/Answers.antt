use Rattle.pyc_reuse.proofs.WhereLemmas.{examined_just_where}
use Rattle.pyc_reuse.proofs.laws.examined_just_where.Goals as goal

pub returns : goal.returns
returns c = examined_just_where
