use Rattle.std.proofs.lemmas.Grind.{common_steps}
use Rattle.std.proofs.Common.{arith, rules}
use Rattle.pyc_members.proofs.attributes.push_statement.Goals as goal

pub returns-in_err-clone-in-Annotate : goal.returns-in_err-clone-in-Annotate
returns-in_err-clone-in-Annotate c = first_of (grind (arith, common_steps), search rules)
