use Rattle.pyc_build.proofs.Steps.{ReadsTokens_made}
use Rattle.std.proofs.Common.{arith, rules}
use Rattle.pyc_precedence.proofs.rules.ExpressionRules.prefix_sign.Goals as goal

pub returns-in-Plus : goal.returns-in-Plus
returns-in-Plus g c = first_of (grind (arith, ReadsTokens_made), search rules)

pub returns-in_default : goal.returns-in_default
returns-in_default g c = first_of (grind (arith, ReadsTokens_made), search rules)
