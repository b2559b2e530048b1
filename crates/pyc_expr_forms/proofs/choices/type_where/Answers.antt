use Rattle.pyc_obligations.proofs.Steps.{performing}
use Rattle.std.proofs.Common.{arith, rules}
use Rattle.pyc_expr_forms.proofs.choices.type_where.Goals as goal

pub returns-in-Reachable : goal.returns-in-Reachable
returns-in-Reachable g c = first_of (grind (arith, performing), search rules)

pub returns-in-Unreachable : goal.returns-in-Unreachable
returns-in-Unreachable g c = first_of (grind (arith, performing), search rules)
