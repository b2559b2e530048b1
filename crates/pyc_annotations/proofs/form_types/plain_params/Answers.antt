use Rattle.std.proofs.Common.{arith, rules}
use Rattle.std.proofs.lemmas.Grind.{common_steps}
use Rattle.pyc_annotations.proofs.form_types.plain_params.Goals as goal

pub loop-ty-init : goal.loop-ty-init
loop-ty-init c = first_of (grind (arith, common_steps), search rules)

pub returns : goal.returns
returns c = first_of (grind (arith, common_steps), search rules)

pub returns-in_err-params : goal.returns-in_err-params
returns-in_err-params c = first_of (grind (arith, common_steps), search rules)

pub returns-in_err-plain_param : goal.returns-in_err-plain_param
returns-in_err-plain_param c = first_of (grind (arith, common_steps), search rules)

pub returns-in_err-push : goal.returns-in_err-push
returns-in_err-push c = first_of (grind (arith, common_steps), search rules)
