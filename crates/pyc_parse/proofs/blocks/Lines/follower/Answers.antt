use Rattle.pyc_parse.specs.Blocks.{follower}
use Rattle.std.proofs.lemmas.Grind.{common_steps}
use Rattle.std.proofs.Common.{arith, rules}
use Rattle.pyc_parse.proofs.blocks.Lines.follower.Goals as goal

pub returns-in-Some : goal.returns-in-Some
unfolding follower
returns-in-Some c = first_of (grind (arith, common_steps), search rules)

pub returns-in_default : goal.returns-in_default
unfolding follower
returns-in_default c = first_of (grind (arith, common_steps), search rules)

pub returns-in_default-2 : goal.returns-in_default-2
unfolding follower
returns-in_default-2 c = first_of (grind (arith, common_steps), search rules)
