use Rattle.pyc_tree.specs.Expressions.{parse_comparisons}
use Rattle.pyc_build.proofs.Steps.{ReadsTokens_made}
use Rattle.std.proofs.Common.{arith, rules}
use Rattle.pyc_precedence.proofs.rules.ExpressionRules.parse_comparisons.Goals as goal

pub returns-in_err-links : goal.returns-in_err-links
unfolding parse_comparisons
returns-in_err-links g c = first_of (grind (arith, ReadsTokens_made), search rules)

pub returns : goal.returns
unfolding parse_comparisons
returns g c = first_of (grind (arith, ReadsTokens_made), search rules)
