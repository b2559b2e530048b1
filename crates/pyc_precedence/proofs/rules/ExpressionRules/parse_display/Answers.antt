use Rattle.pyc_build.proofs.Steps.{ReadsTokens_made}
use Rattle.std.proofs.Common.{arith, rules}
use Rattle.pyc_precedence.proofs.rules.ExpressionRules.parse_display.Goals as goal

pub returns-in-Round : goal.returns-in-Round
returns-in-Round g c = first_of (grind (arith, ReadsTokens_made), search rules)

pub returns-in-Square : goal.returns-in-Square
returns-in-Square g c = first_of (grind (arith, ReadsTokens_made), search rules)

pub returns-in-Curly : goal.returns-in-Curly
returns-in-Curly g c = first_of (grind (arith, ReadsTokens_made), search rules)
