use Rattle.std.proofs.Common.{arith, rules}
use Rattle.std.proofs.lemmas.Grind.{common_steps}
use Rattle.pyc_declarations.proofs.declared_types.constant_type.Goals as goal

pub returns-in-Bytes : goal.returns-in-Bytes
returns-in-Bytes c = first_of (grind (arith, common_steps), search rules)

pub returns-in-Ellipsis : goal.returns-in-Ellipsis
returns-in-Ellipsis c = first_of (grind (arith, common_steps), search rules)

pub returns-in-Float : goal.returns-in-Float
returns-in-Float c = first_of (grind (arith, common_steps), search rules)

pub returns-in-Integer : goal.returns-in-Integer
returns-in-Integer c = first_of (grind (arith, common_steps), search rules)

pub returns-in-None : goal.returns-in-None
returns-in-None c = first_of (grind (arith, common_steps), search rules)

pub returns-in-Str : goal.returns-in-Str
returns-in-Str c = first_of (grind (arith, common_steps), search rules)

pub returns-in-True : goal.returns-in-True
returns-in-True c = first_of (grind (arith, common_steps), search rules)
