use Rattle.pyc_tree.specs.Expressions.{operation}
use Rattle.pyc_build.proofs.Steps.{ReadsTokens_made}
use Rattle.std.proofs.Common.{arith, rules}
use Rattle.pyc_precedence.proofs.rules.ExpressionRules.operation.Goals as goal

pub returns-in-Keyword : goal.returns-in-Keyword
unfolding operation
returns-in-Keyword g c = first_of (grind (arith, ReadsTokens_made), search rules)

pub returns-in-Comparison : goal.returns-in-Comparison
unfolding operation
returns-in-Comparison g c = first_of (grind (arith, ReadsTokens_made), search rules)

pub returns-in-Open : goal.returns-in-Open
unfolding operation
returns-in-Open g c = first_of (grind (arith, ReadsTokens_made), search rules)

pub returns-in-Delimiter : goal.returns-in-Delimiter
unfolding operation
returns-in-Delimiter g c = first_of (grind (arith, ReadsTokens_made), search rules)

pub returns-in_default : goal.returns-in_default
unfolding operation
returns-in_default g c = first_of (grind (arith, ReadsTokens_made), search rules)
