use Rattle.std.proofs.Common.{arith, rules}
use Rattle.std.proofs.lemmas.Grind.{common_steps}
use Rattle.pyc_token.specs.Strings.{has_open_field}
use Rattle.pyc_token.proofs.strings.has_open_field.Goals as goal

pub loop-byte-init : goal.loop-byte-init
unfolding has_open_field
loop-byte-init c = first_of (grind (arith, common_steps), search rules)

pub returns-else-is_open-2 : goal.returns-else-is_open-2
unfolding has_open_field
returns-else-is_open-2 c = first_of (grind (arith, common_steps), search rules)

pub returns-then-is_open-2 : goal.returns-then-is_open-2
unfolding has_open_field
returns-then-is_open-2 c = first_of (grind (arith, common_steps), search rules)
