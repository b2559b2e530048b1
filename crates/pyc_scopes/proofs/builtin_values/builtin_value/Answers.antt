use Rattle.std.proofs.Common.{arith, rules}
use Rattle.std.proofs.lemmas.Grind.{common_steps}
use Rattle.pyc_scopes.proofs.builtin_values.builtin_value.Goals as goal

pub returns-in_err-ty-in-Function : goal.returns-in_err-ty-in-Function
returns-in_err-ty-in-Function c = first_of (grind (arith, common_steps), search rules)

pub returns-in_ok-ty-in-Function : goal.returns-in_ok-ty-in-Function
returns-in_ok-ty-in-Function c = first_of (grind (arith, common_steps), search rules)
