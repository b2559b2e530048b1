use Rattle.pyc_build.proofs.Steps.{ReadsTokens_made}
use Rattle.std.proofs.Common.{arith, rules}
use Rattle.pyc_precedence.proofs.rules.ExpressionRules.prefix_word.Goals as goal

pub returns-in-False : goal.returns-in-False
returns-in-False g c = first_of (grind (arith, ReadsTokens_made), search rules)

pub returns-in-Not : goal.returns-in-Not
returns-in-Not g c = first_of (grind (arith, ReadsTokens_made), search rules)

pub returns-in-Await : goal.returns-in-Await
returns-in-Await g c = first_of (grind (arith, ReadsTokens_made), search rules)

pub returns-in-Lambda : goal.returns-in-Lambda
returns-in-Lambda g c = first_of (grind (arith, ReadsTokens_made), search rules)

pub returns-in_default : goal.returns-in_default
returns-in_default g c = first_of (grind (arith, ReadsTokens_made), search rules)
