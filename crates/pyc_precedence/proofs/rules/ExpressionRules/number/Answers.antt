use Rattle.pyc_build.proofs.Steps.{ReadsTokens_made}
use Rattle.std.proofs.Common.{arith, rules}
use Rattle.pyc_precedence.proofs.rules.ExpressionRules.number.Goals as goal

pub returns-in_err-token : goal.returns-in_err-token
returns-in_err-token g c = first_of (grind (arith, ReadsTokens_made), search rules)

pub returns : goal.returns
returns g c = first_of (grind (arith, ReadsTokens_made), search rules)
