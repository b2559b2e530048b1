use Rattle.pyc_lower_statement.proofs.ParameterLemmas.{parameters}
use Rattle.std.proofs.Common.{arith, rules}
use Rattle.pyc_lower_statement.proofs.parameters.boxed_tail.Goals as goal

pub returns-in-Nothing : goal.returns-in-Nothing
returns-in-Nothing g c = first_of (grind (arith, parameters), search rules)

pub returns-in_err-expr-in-After : goal.returns-in_err-expr-in-After
returns-in_err-expr-in-After g c = first_of (grind (arith, parameters), search rules)

pub returns-in_err-new-in-After : goal.returns-in_err-new-in-After
returns-in_err-new-in-After g c = first_of (grind (arith, parameters), search rules)

pub returns-in_ok-new-in-After : goal.returns-in_ok-new-in-After
returns-in_ok-new-in-After g c = first_of (grind (arith, parameters), search rules)
