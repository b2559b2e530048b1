use Rattle.pyc_ast.proofs.TargetViewLemmas.{target_views}
use Rattle.pyc_lower_statement.proofs.TargetLemmas.{targets}
use Rattle.std.proofs.Common.{arith, rules}
use Rattle.std.proofs.lemmas.Grind.{common_steps}
use Rattle.pyc_lower_statement.proofs.targets.element_at.Goals as goal

pub returns-in-None : goal.returns-in-None
returns-in-None c = first_of (grind (arith, common_steps, target_views, targets), search rules)
