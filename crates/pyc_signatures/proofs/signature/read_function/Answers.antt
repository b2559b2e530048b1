use Rattle.pyc_signatures.specs.Signatures.{function_type}
use Rattle.pyc_signatures.proofs.Steps.{performing}
use Rattle.std.proofs.Common.{arith, rules}
use Rattle.pyc_signatures.proofs.signature.read_function.Goals as goal

pub returns-in_err-params : goal.returns-in_err-params
unfolding function_type
returns-in_err-params g c = first_of (grind (arith, performing), search rules)

pub returns-in_err-answer : goal.returns-in_err-answer
unfolding function_type
returns-in_err-answer g c = first_of (grind (arith, performing), search rules)

pub returns : goal.returns
unfolding function_type
returns g c = first_of (grind (arith, performing), search rules)
