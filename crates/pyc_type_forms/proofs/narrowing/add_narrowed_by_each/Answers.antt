use Rattle.std.proofs.lemmas.Grind.{common_steps}
use Rattle.std.proofs.Common.{arith, rules}
use Rattle.pyc_type_forms.proofs.narrowing.add_narrowed_by_each.Goals as goal

pub loop-class-init : goal.loop-class-init
loop-class-init g c = first_of (grind (arith, common_steps), search rules)

pub returns : goal.returns
returns g c = first_of (grind (arith, common_steps), search rules)

pub returns-in_err-add_narrowed : goal.returns-in_err-add_narrowed
returns-in_err-add_narrowed g c = first_of (grind (arith, common_steps), search rules)
