use Rattle.pyc_build.proofs.Steps.{ReadsTokens_made}
use Rattle.std.proofs.Common.{arith, rules}
use Rattle.pyc_precedence.proofs.rules.ExpressionRules.word_operation.Goals as goal

pub returns-in-If : goal.returns-in-If
returns-in-If g c = first_of (grind (arith, ReadsTokens_made), search rules)

pub returns-in-In : goal.returns-in-In
returns-in-In g c = first_of (grind (arith, ReadsTokens_made), search rules)

pub returns-in_default : goal.returns-in_default
returns-in_default g c = first_of (grind (arith, ReadsTokens_made), search rules)
