use Rattle.std.proofs.lemmas.Grind.{common_steps}
use Rattle.pyc_signatures.proofs.Steps.{performing}
use Rattle.std.proofs.Common.{arith, rules}
use Rattle.pyc_signatures.proofs.signature.read_parameters.Goals as goal

pub returns-in_err-param-in-Some : goal.returns-in_err-param-in-Some
returns-in_err-param-in-Some g c = first_of (grind (arith, performing), search rules)

pub returns-in_err-found-in-Some : goal.returns-in_err-found-in-Some
returns-in_err-found-in-Some g c = first_of (grind (arith, performing), search rules)

pub returns-in_err-params-in-Some : goal.returns-in_err-params-in-Some
returns-in_err-params-in-Some g c = first_of (grind (arith, performing), search rules)

pub returns-in_ok-params-in-Some : goal.returns-in_ok-params-in-Some
returns-in_ok-params-in-Some g c = first_of (grind (arith, performing), search rules)

pub returns-in-None : goal.returns-in-None
returns-in-None g c = first_of (grind (arith, common_steps, performing), search rules)
