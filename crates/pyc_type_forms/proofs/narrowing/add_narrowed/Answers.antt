use Rattle.std.proofs.lemmas.Grind.{common_steps}
use Rattle.std.proofs.Common.{arith, rules}
use Rattle.pyc_type_forms.proofs.narrowing.add_narrowed.Goals as goal

pub returns-in-Some : goal.returns-in-Some
returns-in-Some g c = first_of (grind (arith, common_steps), search rules)

pub returns-in_err-own-in_default : goal.returns-in_err-own-in_default
returns-in_err-own-in_default g c = first_of (grind (arith, common_steps), search rules)
