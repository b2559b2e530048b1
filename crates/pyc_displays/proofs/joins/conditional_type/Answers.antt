use Rattle.std.proofs.Common.{arith, rules}
use Rattle.std.proofs.lemmas.Grind.{common_steps}
use Rattle.pyc_displays.proofs.joins.conditional_type.Goals as goal

pub returns : goal.returns
returns c = first_of (grind (arith, common_steps), search rules)

pub returns-in_err-push_some : goal.returns-in_err-push_some
returns-in_err-push_some c = first_of (grind (arith, common_steps), search rules)

pub returns-in_err-push_some-2 : goal.returns-in_err-push_some-2
returns-in_err-push_some-2 c = first_of (grind (arith, common_steps), search rules)
