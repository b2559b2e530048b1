use Rattle.std.proofs.lemmas.Grind.{common_steps}
use Rattle.std.proofs.Common.{arith, rules}
use Rattle.pyc_type_forms.proofs.unions.joined.Goals as goal

pub returns-in_err-new : goal.returns-in_err-new
returns-in_err-new c = first_of (grind (arith, common_steps), search rules)

pub returns-then-len-eq1 : goal.returns-then-len-eq1
returns-then-len-eq1 c = first_of (grind (arith, common_steps), search rules)
