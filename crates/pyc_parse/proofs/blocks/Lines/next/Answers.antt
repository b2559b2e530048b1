use Rattle.pyc_parse.specs.Blocks.{next_of}
use Rattle.std.proofs.lemmas.Grind.{common_steps}
use Rattle.std.proofs.Common.{arith, rules}
use Rattle.pyc_parse.proofs.blocks.Lines.next.Goals as goal

pub returns-in-None : goal.returns-in-None
unfolding next_of
returns-in-None c = first_of (grind (arith, common_steps), search rules)

pub returns-in-Some : goal.returns-in-Some
unfolding next_of
returns-in-Some c = first_of (grind (arith, common_steps), search rules)

pub returns-in-Some-2 : goal.returns-in-Some-2
unfolding next_of
returns-in-Some-2 c = first_of (grind (arith, common_steps), search rules)

pub returns-in-Some-3 : goal.returns-in-Some-3
unfolding next_of
returns-in-Some-3 c = first_of (grind (arith, common_steps), search rules)
