use Rattle.pyc_tree.specs.Expressions.{one_link}
use Rattle.pyc_build.proofs.Steps.{ReadsTokens_made}
use Rattle.std.proofs.Common.{arith, rules}
use Rattle.pyc_precedence.proofs.rules.ExpressionRules.one_link.Goals as goal

pub returns-in_err-first : goal.returns-in_err-first
unfolding one_link
returns-in_err-first g c = first_of (grind (arith, ReadsTokens_made), search rules)

pub returns-in_err-second : goal.returns-in_err-second
unfolding one_link
returns-in_err-second g c = first_of (grind (arith, ReadsTokens_made), search rules)

pub returns-in_err-right : goal.returns-in_err-right
unfolding one_link
returns-in_err-right g c = first_of (grind (arith, ReadsTokens_made), search rules)

pub returns : goal.returns
unfolding one_link
returns g c = first_of (grind (arith, ReadsTokens_made), search rules)
