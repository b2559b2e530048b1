use Rattle.pyc_lower_block.proofs.BlockLemmas.{blocks}
use Rattle.std.proofs.Common.{arith, rules}
use Rattle.std.proofs.lemmas.Grind.{common_steps}
use Rattle.pyc_lower_block.proofs.blocks.push_line.Goals as goal

pub loop-item-init : goal.loop-item-init
loop-item-init g c = first_of (grind (arith, blocks), search rules)

pub returns : goal.returns
returns g c = first_of (grind (arith, common_steps, blocks), search rules)

pub returns-in_default : goal.returns-in_default
returns-in_default g c = first_of (grind (arith, common_steps, blocks), search rules)

pub returns-in_err-push : goal.returns-in_err-push
returns-in_err-push g c = first_of (grind (arith, blocks), search rules)

pub returns-in_err-push-2 : goal.returns-in_err-push-2
returns-in_err-push-2 g c = first_of (grind (arith, blocks), search rules)

pub returns-in_err-statement : goal.returns-in_err-statement
returns-in_err-statement g c = first_of (grind (arith, blocks), search rules)

pub returns-in_err-statement-2 : goal.returns-in_err-statement-2
returns-in_err-statement-2 g c = first_of (grind (arith, blocks), search rules)
