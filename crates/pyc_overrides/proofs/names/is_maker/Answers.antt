use Rattle.std.proofs.Common.{arith, rules}
use Rattle.std.proofs.lemmas.Grind.{common_steps}
use Rattle.pyc_overrides.proofs.names.is_maker.Goals as goal

pub returns-in-text : goal.returns-in-text
returns-in-text c = first_of (grind (arith, common_steps), search rules)

pub returns-in-text-2 : goal.returns-in-text-2
returns-in-text-2 c = first_of (grind (arith, common_steps), search rules)

pub returns-in-text-3 : goal.returns-in-text-3
returns-in-text-3 c = first_of (grind (arith, common_steps), search rules)

pub returns-in-text-4 : goal.returns-in-text-4
returns-in-text-4 c = first_of (grind (arith, common_steps), search rules)

pub returns-in_default : goal.returns-in_default
returns-in_default c = first_of (grind (arith, common_steps), search rules)
