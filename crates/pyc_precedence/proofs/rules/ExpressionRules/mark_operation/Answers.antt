use Rattle.pyc_build.proofs.Steps.{ReadsTokens_made}
use Rattle.std.proofs.Common.{arith, rules}
use Rattle.pyc_precedence.proofs.rules.ExpressionRules.mark_operation.Goals as goal

pub returns-in-Dot : goal.returns-in-Dot
returns-in-Dot g c = first_of (grind (arith, ReadsTokens_made), search rules)

pub returns-in_default : goal.returns-in_default
returns-in_default g c = first_of (grind (arith, ReadsTokens_made), search rules)
