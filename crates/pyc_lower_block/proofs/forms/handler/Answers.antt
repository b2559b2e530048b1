use Rattle.std.proofs.lemmas.Grind.{common_steps}
use Rattle.std.proofs.Common.{arith, rules}
use Rattle.pyc_lower_block.proofs.forms.handler.Goals as goal

pub returns-in_err-alias : goal.returns-in_err-alias
returns-in_err-alias g c = first_of (grind (arith, common_steps), search rules)

pub returns-in_err-expr : goal.returns-in_err-expr
returns-in_err-expr g c = first_of (grind (arith, common_steps), search rules)
