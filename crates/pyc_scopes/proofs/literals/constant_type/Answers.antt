use Rattle.std.proofs.Common.{arith, rules}
use Rattle.std.proofs.lemmas.Grind.{common_steps}
use Rattle.pyc_scopes.proofs.literals.constant_type.Goals as goal

pub returns-in-Bytes : goal.returns-in-Bytes
returns-in-Bytes c = first_of (grind (arith, common_steps), search rules)

pub returns-in-False : goal.returns-in-False
returns-in-False c = first_of (grind (arith, common_steps), search rules)

pub returns-in-Float : goal.returns-in-Float
returns-in-Float c = first_of (grind (arith, common_steps), search rules)

pub returns-in-FormattedStr : goal.returns-in-FormattedStr
returns-in-FormattedStr c = first_of (grind (arith, common_steps), search rules)

pub returns-in-Integer : goal.returns-in-Integer
returns-in-Integer c = first_of (grind (arith, common_steps), search rules)

pub returns-in-Str : goal.returns-in-Str
returns-in-Str c = first_of (grind (arith, common_steps), search rules)

pub returns-in-True : goal.returns-in-True
returns-in-True c = first_of (grind (arith, common_steps), search rules)
