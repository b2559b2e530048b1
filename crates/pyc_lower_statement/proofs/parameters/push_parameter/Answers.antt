use Rattle.pyc_lower_statement.proofs.ParameterLemmas.{parameters}
use Rattle.std.proofs.Common.{arith, rules}
use Rattle.std.proofs.lemmas.Grind.{common_steps}
use Rattle.pyc_lower_statement.proofs.parameters.push_parameter.Goals as goal

pub returns-in-None : goal.returns-in-None
returns-in-None g c = first_of (grind (arith, parameters), search rules)

pub returns-in_err-parameter : goal.returns-in_err-parameter
returns-in_err-parameter g c = first_of (grind (arith, parameters), search rules)

pub returns-in_err-push-in-Some : goal.returns-in_err-push-in-Some
returns-in_err-push-in-Some g c = first_of (grind (arith, parameters), search rules)

pub returns-in_ok-push-in-Some : goal.returns-in_ok-push-in-Some
returns-in_ok-push-in-Some g c = first_of (grind (arith, common_steps, parameters), search rules)
