use Rattle.pyc_lower_statement.proofs.ParameterLemmas.{parameters}
use Rattle.std.proofs.Common.{arith, rules}
use Rattle.pyc_lower_statement.proofs.parameters.optional_expression.Goals as goal

pub returns-in-None : goal.returns-in-None
returns-in-None g c = first_of (grind (arith, parameters), search rules)

pub returns-in_err-expr-in-Some : goal.returns-in_err-expr-in-Some
returns-in_err-expr-in-Some g c = first_of (grind (arith, parameters), search rules)

pub returns-in_err-new-in-Some : goal.returns-in_err-new-in-Some
returns-in_err-new-in-Some g c = first_of (grind (arith, parameters), search rules)

pub returns-in_ok-new-in-Some : goal.returns-in_ok-new-in-Some
returns-in_ok-new-in-Some g c = first_of (grind (arith, parameters), search rules)
