use Rattle.std.proofs.lemmas.Grind.{common_steps}
use Rattle.std.proofs.Common.{arith, rules}
use Rattle.pyc_type_forms.proofs.unions.add_new.Goals as goal

pub loop-ty-init : goal.loop-ty-init
loop-ty-init c = first_of (grind (arith, common_steps), search rules)

pub returns : goal.returns
returns c = first_of (grind (arith, common_steps), search rules)

pub returns-in_err-add_if_new : goal.returns-in_err-add_if_new
returns-in_err-add_if_new c = first_of (grind (arith, common_steps), search rules)
