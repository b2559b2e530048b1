use Rattle.pyc_lower_statement.proofs.HeaderLemmas.{heads}
use Rattle.std.proofs.Common.{arith, rules}
use Rattle.pyc_lower_statement.proofs.headers.optional_target.Goals as goal

pub returns-in-Nothing : goal.returns-in-Nothing
returns-in-Nothing g c = first_of (grind (arith, heads), search rules)

pub returns-in_err-target-in-After : goal.returns-in_err-target-in-After
returns-in_err-target-in-After g c = first_of (grind (arith, heads), search rules)

pub returns-in_ok-target-in-After : goal.returns-in_ok-target-in-After
returns-in_ok-target-in-After g c = first_of (grind (arith, heads), search rules)
