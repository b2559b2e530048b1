use Rattle.std.proofs.lemmas.Grind.{common_steps}
use Rattle.std.proofs.Common.{arith, rules}
use Rattle.pyc_build.proofs.Steps.{ReadsTokens_made}
use Rattle.pyc_precedence.proofs.operands.are_joined.Goals as goal

pub loop-token-init : goal.loop-token-init
loop-token-init c = first_of (grind (arith, ReadsTokens_made), search rules)

pub returns : goal.returns
returns c = first_of (grind (arith, common_steps, ReadsTokens_made), search rules)

pub returns-then-not-joins : goal.returns-then-not-joins
returns-then-not-joins c = first_of (grind (arith, common_steps, ReadsTokens_made), search rules)
