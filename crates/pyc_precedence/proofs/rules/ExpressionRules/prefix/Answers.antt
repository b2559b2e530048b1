use Rattle.pyc_tree.specs.Expressions.{prefix}
use Rattle.pyc_build.proofs.Steps.{ReadsTokens_made}
use Rattle.std.proofs.Common.{arith, rules}
use Rattle.pyc_precedence.proofs.rules.ExpressionRules.prefix.Goals as goal

pub returns-in-Name : goal.returns-in-Name
unfolding prefix
returns-in-Name g c = first_of (grind (arith, ReadsTokens_made), search rules)

pub returns-in-Number : goal.returns-in-Number
unfolding prefix
returns-in-Number g c = first_of (grind (arith, ReadsTokens_made), search rules)

pub returns-in-String : goal.returns-in-String
unfolding prefix
returns-in-String g c = first_of (grind (arith, ReadsTokens_made), search rules)

pub returns-in-Keyword : goal.returns-in-Keyword
unfolding prefix
returns-in-Keyword g c = first_of (grind (arith, ReadsTokens_made), search rules)

pub returns-in-Arithmetic : goal.returns-in-Arithmetic
unfolding prefix
returns-in-Arithmetic g c = first_of (grind (arith, ReadsTokens_made), search rules)

pub returns-in-Delimiter : goal.returns-in-Delimiter
unfolding prefix
returns-in-Delimiter g c = first_of (grind (arith, ReadsTokens_made), search rules)

pub returns-in-Open : goal.returns-in-Open
unfolding prefix
returns-in-Open g c = first_of (grind (arith, ReadsTokens_made), search rules)

pub returns-in_default : goal.returns-in_default
unfolding prefix
returns-in_default g c = first_of (grind (arith, ReadsTokens_made), search rules)
