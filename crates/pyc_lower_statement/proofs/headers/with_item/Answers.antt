use Rattle.pyc_lower_statement.proofs.HeaderLemmas.{heads}
use Rattle.std.proofs.Common.{arith, rules}
use Rattle.pyc_lower_statement.proofs.headers.with_item.Goals as goal

pub returns : goal.returns
returns g c = first_of (grind (arith, heads), search rules)

pub returns-in_err-expr : goal.returns-in_err-expr
returns-in_err-expr g c = first_of (grind (arith, heads), search rules)

pub returns-in_err-with_target : goal.returns-in_err-with_target
returns-in_err-with_target g c = first_of (grind (arith, heads), search rules)
