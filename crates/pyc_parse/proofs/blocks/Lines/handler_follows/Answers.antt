use Rattle.std.proofs.lemmas.Grind.{common_steps}
use Rattle.std.proofs.Common.{arith, rules}
use Rattle.pyc_parse.proofs.blocks.Lines.handler_follows.Goals as goal

pub loop-at-init : goal.loop-at-init
loop-at-init c = first_of (grind (arith, common_steps), search rules)

pub returns : goal.returns
returns c = first_of (grind (arith, common_steps), search rules)

pub returns-else-placed-indent-2 : goal.returns-else-placed-indent-2
returns-else-placed-indent-2 c = first_of (grind (arith, common_steps), search rules)

pub returns-then-placed-indent-2 : goal.returns-then-placed-indent-2
returns-then-placed-indent-2 c = first_of (grind (arith, common_steps), search rules)
