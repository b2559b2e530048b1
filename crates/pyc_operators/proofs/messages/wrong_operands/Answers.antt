use Rattle.std.proofs.Common.{arith, rules}
use Rattle.std.proofs.lemmas.Grind.{common_steps}
use Rattle.pyc_operators.specs.Messages.{wrong_operands}
use Rattle.pyc_operators.proofs.messages.wrong_operands.Goals as goal

pub returns : goal.returns
unfolding wrong_operands
returns g c = first_of (grind (arith, common_steps), search rules)

pub returns-in_err-text : goal.returns-in_err-text
unfolding wrong_operands
returns-in_err-text g c = first_of (grind (arith, common_steps), search rules)
