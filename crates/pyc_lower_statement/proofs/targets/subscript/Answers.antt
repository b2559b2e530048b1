use Rattle.pyc_ast.proofs.TargetViewLemmas.{target_views}
use Rattle.pyc_lower_statement.proofs.TargetLemmas.{targets}
use Rattle.std.proofs.Common.{arith, rules}
use Rattle.pyc_lower_statement.proofs.targets.subscript.Goals as goal

pub returns-in_err-index : goal.returns-in_err-index
returns-in_err-index c = first_of (grind (arith, target_views, targets), search rules)

pub returns-in_err-value : goal.returns-in_err-value
returns-in_err-value c = first_of (grind (arith, target_views, targets), search rules)
