use Rattle.std.proofs.Common.{arith, rules}
use Rattle.std.proofs.lemmas.Grind.{common_steps}
use Rattle.pyc_builtins.proofs.tables.value_in.Goals as goal

pub loop-table-init : goal.loop-table-init
loop-table-init g c = first_of (grind (arith, common_steps), search rules)

pub returns : goal.returns
returns g c = first_of (grind (arith, common_steps), search rules)

pub returns-then-eq : goal.returns-then-eq
returns-then-eq g c = first_of (grind (arith, common_steps), search rules)
