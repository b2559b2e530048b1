use Rattle.std.proofs.Common.{arith, rules}
use Rattle.std.proofs.lemmas.Grind.{common_steps}
use Rattle.pyc_declarations.proofs.alias.variable_kind.Goals as goal

pub returns-else-is_alias : goal.returns-else-is_alias
returns-else-is_alias c = first_of (grind (arith, common_steps), search rules)

pub returns-then-is_alias : goal.returns-then-is_alias
returns-then-is_alias c = first_of (grind (arith, common_steps), search rules)
