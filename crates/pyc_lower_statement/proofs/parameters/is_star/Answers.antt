use Rattle.std.proofs.Common.{sym, arith, rules}
use Rattle.pyc_lower_statement.proofs.ParameterLemmas.{unstarred, parameters}
use Rattle.pyc_lower_statement.proofs.parameters.is_star.Goals as goal

pub returns-in_default : goal.returns-in_default
returns-in_default c = sym (unstarred c.args.tree.now c.in_default.not-StarParameter c.in_default.not-BareStar)

pub returns-in-BareStar : goal.returns-in-BareStar
returns-in-BareStar c = first_of (grind (arith, parameters), search rules)

pub returns-in-StarParameter : goal.returns-in-StarParameter
returns-in-StarParameter c = first_of (grind (arith, parameters), search rules)
