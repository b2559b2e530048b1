use Rattle.pyc_parse.specs.Blocks.{under}
use Rattle.std.proofs.lemmas.Grind.{common_steps}
use Rattle.std.proofs.Common.{arith, rules}
use Rattle.pyc_parse.proofs.blocks.Lines.under.Goals as goal

pub returns-in-None : goal.returns-in-None
unfolding under
returns-in-None c = first_of (grind (arith, common_steps), search rules)

pub returns-in-Some : goal.returns-in-Some
unfolding under
returns-in-Some c = first_of (grind (arith, common_steps), search rules)
