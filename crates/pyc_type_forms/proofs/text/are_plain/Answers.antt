use Rattle.std.proofs.lemmas.Grind.{common_steps}
use Rattle.std.proofs.Common.{arith, rules}
use Rattle.pyc_type_forms.proofs.text.are_plain.Goals as goal

pub loop-param-init : goal.loop-param-init
loop-param-init c = first_of (grind (arith, common_steps), search rules)

pub returns : goal.returns
returns c = first_of (grind (arith, common_steps), search rules)
