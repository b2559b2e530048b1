use Rattle.std.proofs.Common.{arith, rules}
use Rattle.std.proofs.lemmas.Grind.{common_steps}
use Rattle.pyc_targets.proofs.members.MemberTarget.member_want.Goals as goal

pub returns-in-Property : goal.returns-in-Property
returns-in-Property g c = first_of (grind (arith, common_steps), search rules)

pub returns-in-SettableProperty : goal.returns-in-SettableProperty
returns-in-SettableProperty g c = first_of (grind (arith, common_steps), search rules)

pub returns-in-Variable : goal.returns-in-Variable
returns-in-Variable g c = first_of (grind (arith, common_steps), search rules)

pub returns-in_default : goal.returns-in_default
returns-in_default g c = first_of (grind (arith, common_steps), search rules)
