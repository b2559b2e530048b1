use Rattle.std.proofs.Common.{arith, rules}
use Rattle.std.proofs.lemmas.Grind.{common_steps}
use Rattle.pyc_signatures.proofs.signature.function_type_of.Goals as goal

pub returns-in_err-new : goal.returns-in_err-new
returns-in_err-new c = first_of (grind (arith, common_steps), search rules)
