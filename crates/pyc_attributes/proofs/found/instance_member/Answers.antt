use Rattle.std.proofs.Common.{arith, rules}
use Rattle.std.proofs.lemmas.Grind.{common_steps}
use Rattle.pyc_attributes.proofs.found.instance_member.Goals as goal

pub returns : goal.returns
returns c = first_of (grind (arith, common_steps), search rules)

pub returns-in_err-class : goal.returns-in_err-class
returns-in_err-class c = first_of (grind (arith, common_steps), search rules)

pub returns-in_err-ty : goal.returns-in_err-ty
returns-in_err-ty c = first_of (grind (arith, common_steps), search rules)
