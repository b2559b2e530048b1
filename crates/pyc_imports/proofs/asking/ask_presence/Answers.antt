use Rattle.std.proofs.Common.{arith, rules}
use Rattle.std.proofs.lemmas.Grind.{common_steps}
use Rattle.pyc_imports.proofs.asking.ask_presence.Goals as goal

pub returns : goal.returns
returns g c = first_of (grind (arith, common_steps), search rules)

pub returns-in_err-answer : goal.returns-in_err-answer
returns-in_err-answer g c = first_of (grind (arith, common_steps), search rules)
