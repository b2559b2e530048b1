use Rattle.std.proofs.Common.{arith, rules}
use Rattle.std.proofs.lemmas.Grind.{common_steps}
use Rattle.pyc_builtins.proofs.member_types.pair_of.Goals as goal

pub returns-in_err-key_of : goal.returns-in_err-key_of
returns-in_err-key_of c = first_of (grind (arith, common_steps), search rules)

pub returns-in_err-new : goal.returns-in_err-new
returns-in_err-new c = first_of (grind (arith, common_steps), search rules)

pub returns-in_err-pair : goal.returns-in_err-pair
returns-in_err-pair c = first_of (grind (arith, common_steps), search rules)

pub returns-in_err-value_of : goal.returns-in_err-value_of
returns-in_err-value_of c = first_of (grind (arith, common_steps), search rules)
