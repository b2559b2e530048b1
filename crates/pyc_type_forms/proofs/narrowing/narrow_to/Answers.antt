use Rattle.std.proofs.lemmas.Grind.{common_steps}
use Rattle.std.proofs.Common.{arith, rules}
use Rattle.pyc_type_forms.proofs.narrowing.narrow_to.Goals as goal

pub loop-item-init : goal.loop-item-init
loop-item-init g c = first_of (grind (arith, common_steps), search rules)

pub returns : goal.returns
returns g c = first_of (grind (arith, common_steps), search rules)

pub returns-in_err-add_narrowed_by_each : goal.returns-in_err-add_narrowed_by_each
returns-in_err-add_narrowed_by_each g c = first_of (grind (arith, common_steps), search rules)

pub returns-in_err-items : goal.returns-in_err-items
returns-in_err-items g c = first_of (grind (arith, common_steps), search rules)
