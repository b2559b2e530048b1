use Rattle.std.proofs.Common.{arith, rules}
use Rattle.std.proofs.lemmas.Grind.{common_steps}
use Rattle.pyc_iface.proofs.member_types.property_kind.Goals as goal

pub returns-else-is_settable : goal.returns-else-is_settable
returns-else-is_settable c = first_of (grind (arith, common_steps), search rules)

pub returns-then-is_settable : goal.returns-then-is_settable
returns-then-is_settable c = first_of (grind (arith, common_steps), search rules)
