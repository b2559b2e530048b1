use Rattle.pyc_lower_block.proofs.BlockLemmas.{blocks}
use Rattle.std.proofs.Common.{arith, rules}
use Rattle.std.proofs.lemmas.Grind.{common_steps}
use Rattle.pyc_lower_block.proofs.blocks.decorators.Goals as goal

pub loop-mark-init : goal.loop-mark-init
loop-mark-init g c = first_of (grind (arith, blocks), search rules)

pub returns : goal.returns
returns g c = first_of (grind (arith, common_steps, blocks), search rules)

pub returns-in_err-expr : goal.returns-in_err-expr
returns-in_err-expr g c = first_of (grind (arith, blocks), search rules)

pub returns-in_err-push : goal.returns-in_err-push
returns-in_err-push g c = first_of (grind (arith, blocks), search rules)
