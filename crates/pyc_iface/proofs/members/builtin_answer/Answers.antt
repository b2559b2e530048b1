use Rattle.std.proofs.lemmas.Grind.{common_steps}
use Rattle.std.proofs.Common.{arith, rules}
use Rattle.pyc_iface.proofs.members.builtin_answer.Goals as goal

pub returns-in_err-ty : goal.returns-in_err-ty
returns-in_err-ty c = first_of (grind (arith, common_steps), search rules)
