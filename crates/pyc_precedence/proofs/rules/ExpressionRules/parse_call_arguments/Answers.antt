use Rattle.pyc_tree.specs.Items.{parse_call_arguments}
use Rattle.pyc_build.proofs.Steps.{ReadsTokens_made}
use Rattle.std.proofs.Common.{arith, rules}
use Rattle.pyc_precedence.proofs.rules.ExpressionRules.parse_call_arguments.Goals as goal

pub returns-in_err-arguments : goal.returns-in_err-arguments
unfolding parse_call_arguments
returns-in_err-arguments g c = first_of (grind (arith, ReadsTokens_made), search rules)

pub returns-in_err-closing : goal.returns-in_err-closing
unfolding parse_call_arguments
returns-in_err-closing g c = first_of (grind (arith, ReadsTokens_made), search rules)

pub returns : goal.returns
unfolding parse_call_arguments
returns g c = first_of (grind (arith, ReadsTokens_made), search rules)
