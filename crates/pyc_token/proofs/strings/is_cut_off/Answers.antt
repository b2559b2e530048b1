use Rattle.std.proofs.Common.{arith, rules}
use Rattle.std.proofs.lemmas.Grind.{common_steps}
use Rattle.pyc_token.proofs.strings.is_cut_off.Goals as goal

pub returns-else-quotes-eq1 : goal.returns-else-quotes-eq1
returns-else-quotes-eq1 c = first_of (grind (arith, common_steps), search rules)

pub returns-then-quotes-eq1 : goal.returns-then-quotes-eq1
returns-then-quotes-eq1 c = first_of (grind (arith, common_steps), search rules)
