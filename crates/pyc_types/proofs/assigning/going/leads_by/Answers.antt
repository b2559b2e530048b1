use Rattle.std.proofs.Common.{arith, rules}
use Rattle.std.proofs.lemmas.Grind.{common_steps}
use Rattle.pyc_types.proofs.assigning.going.leads_by.Goals as goal

pub returns-else-contains_builtin : goal.returns-else-contains_builtin
returns-else-contains_builtin c = first_of (grind (arith, common_steps), search rules)

pub returns-then-contains : goal.returns-then-contains
returns-then-contains c = first_of (grind (arith, common_steps), search rules)

pub returns-then-contains_builtin : goal.returns-then-contains_builtin
returns-then-contains_builtin c = first_of (grind (arith, common_steps), search rules)
