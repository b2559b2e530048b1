use Rattle.pyc_narrowing_laws.proofs.BuiltinLemmas.{rules_lose_values}
use Rattle.pyc_narrowing_laws.proofs.laws.lost_values.Goals as goal

pub returns : goal.returns
returns c = rules_lose_values
