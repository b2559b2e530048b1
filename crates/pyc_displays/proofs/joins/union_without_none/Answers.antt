use Rattle.std.proofs.Common.{arith, rules}
use Rattle.std.proofs.lemmas.Grind.{common_steps}
use Rattle.pyc_displays.proofs.joins.union_without_none.Goals as goal

pub returns : goal.returns
returns c = first_of (grind (arith, common_steps), search rules)

pub returns-in_err-push : goal.returns-in_err-push
returns-in_err-push c = first_of (grind (arith, common_steps), search rules)

pub returns-in_err-push_some : goal.returns-in_err-push_some
returns-in_err-push_some c = first_of (grind (arith, common_steps), search rules)

pub returns-in_err-types : goal.returns-in_err-types
returns-in_err-types c = first_of (grind (arith, common_steps), search rules)

pub returns-in_err-without_none : goal.returns-in_err-without_none
returns-in_err-without_none c = first_of (grind (arith, common_steps), search rules)
