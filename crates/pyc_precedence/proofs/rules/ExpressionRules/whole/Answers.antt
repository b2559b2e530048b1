use Rattle.pyc_tree.specs.Expressions.{whole}
use Rattle.pyc_build.proofs.Steps.{ReadsTokens_made}
use Rattle.std.proofs.Common.{arith, rules}
use Rattle.pyc_precedence.proofs.rules.ExpressionRules.whole.Goals as goal

pub returns-in_err-first : goal.returns-in_err-first
unfolding whole
returns-in_err-first g c = first_of (grind (arith, ReadsTokens_made), search rules)

pub returns : goal.returns
unfolding whole
returns g c = first_of (grind (arith, ReadsTokens_made), search rules)
