use Rattle.pyc_types.proofs.Rules.{meets_the_rules}
use Rattle.pyc_types.proofs.laws.rules.Goals as goal

pub returns : goal.returns
returns c = meets_the_rules
