use Rattle.std.proofs.Common.{arith, rules}
use Rattle.std.proofs.lemmas.Grind.{common_steps}
use Rattle.pyc_calls.proofs.constructors.initializer_params.Goals as goal

pub returns-in-Absent : goal.returns-in-Absent
returns-in-Absent c = first_of (grind (arith, common_steps), search rules)

pub returns-in-Builtin : goal.returns-in-Builtin
returns-in-Builtin c = first_of (grind (arith, common_steps), search rules)

pub returns-in-Found : goal.returns-in-Found
returns-in-Found c = first_of (grind (arith, common_steps), search rules)
