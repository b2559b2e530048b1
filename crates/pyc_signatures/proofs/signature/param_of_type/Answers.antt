use Rattle.std.proofs.Common.{arith, rules}
use Rattle.std.proofs.lemmas.Grind.{common_steps}
use Rattle.pyc_signatures.proofs.signature.param_of_type.Goals as goal

pub returns-in_err-param_kind : goal.returns-in_err-param_kind
returns-in_err-param_kind c = first_of (grind (arith, common_steps), search rules)
