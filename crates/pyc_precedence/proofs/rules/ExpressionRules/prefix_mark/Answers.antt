use Rattle.pyc_build.proofs.Steps.{ReadsTokens_made}
use Rattle.std.proofs.Common.{arith, rules}
use Rattle.pyc_precedence.proofs.rules.ExpressionRules.prefix_mark.Goals as goal

pub returns-in-Tilde : goal.returns-in-Tilde
returns-in-Tilde g c = first_of (grind (arith, ReadsTokens_made), search rules)

pub returns-in-Ellipsis : goal.returns-in-Ellipsis
returns-in-Ellipsis g c = first_of (grind (arith, ReadsTokens_made), search rules)

pub returns-in_default : goal.returns-in_default
returns-in_default g c = first_of (grind (arith, ReadsTokens_made), search rules)
