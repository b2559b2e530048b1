use Rattle.std.proofs.Common.{arith, rules}
use Rattle.std.proofs.lemmas.Grind.{common_steps}
use Rattle.pyc_type_forms.proofs.size.+size.Goals as goal

pub left_after_each-loop-ty-init : goal.left_after_each-loop-ty-init
left_after_each-loop-ty-init t c = first_of (grind (arith, common_steps), search rules)

pub left_after_each-returns : goal.left_after_each-returns
left_after_each-returns t c = first_of (grind (arith, common_steps), search rules)

pub left_after_each-returns-in_err-left : goal.left_after_each-returns-in_err-left
left_after_each-returns-in_err-left t c = first_of (grind (arith, common_steps), search rules)

pub left_after_listed-loop-param-init : goal.left_after_listed-loop-param-init
left_after_listed-loop-param-init t c = first_of (grind (arith, common_steps), search rules)

pub left_after_listed-returns : goal.left_after_listed-returns
left_after_listed-returns t c = first_of (grind (arith, common_steps), search rules)
