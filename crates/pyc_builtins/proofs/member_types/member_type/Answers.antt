use Rattle.std.proofs.Common.{arith, rules}
use Rattle.std.proofs.lemmas.Grind.{common_steps}
use Rattle.pyc_builtins.proofs.member_types.member_type.Goals as goal

pub returns-in-Append : goal.returns-in-Append
returns-in-Append c = first_of (grind (arith, common_steps), search rules)

pub returns-in_err-result_type-in-Method : goal.returns-in_err-result_type-in-Method
returns-in_err-result_type-in-Method c = first_of (grind (arith, common_steps), search rules)
