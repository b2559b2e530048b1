use Rattle.pyc_narrowing_laws.proofs.ConditionLemmas.{split_keeps}
use Rattle.pyc_narrowing_laws.proofs.laws.conditions.Goals as goal

pub returns : goal.returns
returns c = split_keeps
