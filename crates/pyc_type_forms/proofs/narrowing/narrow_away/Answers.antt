use Rattle.std.proofs.lemmas.Grind.{common_steps}
use Rattle.std.proofs.Common.{arith, rules}
use Rattle.pyc_type_forms.proofs.narrowing.narrow_away.Goals as goal

pub loop-item-init : goal.loop-item-init
loop-item-init g c = first_of (grind (arith, common_steps), search rules)

pub returns : goal.returns
returns g c = first_of (grind (arith, common_steps), search rules)

pub returns-in_err-add_unless : goal.returns-in_err-add_unless
returns-in_err-add_unless g c = first_of (grind (arith, common_steps), search rules)

pub returns-in_err-is_taken : goal.returns-in_err-is_taken
returns-in_err-is_taken g c = first_of (grind (arith, common_steps), search rules)

pub returns-in_err-items : goal.returns-in_err-items
returns-in_err-items g c = first_of (grind (arith, common_steps), search rules)
