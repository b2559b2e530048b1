use Rattle.std.proofs.Common.{arith, rules}
use Rattle.std.proofs.lemmas.Grind.{common_steps}
use Rattle.pyc_members.specs.ClassBodies.{class_body}
use Rattle.pyc_members.proofs.class_body.ClassBody.read.Goals as goal

pub returns : goal.returns
unfolding class_body
returns c = first_of (grind (arith, common_steps), search rules)

pub returns-in_err-bindings : goal.returns-in_err-bindings
unfolding class_body
returns-in_err-bindings c = first_of (grind (arith, common_steps), search rules)

pub returns-in_err-attributes : goal.returns-in_err-attributes
unfolding class_body
returns-in_err-attributes c = first_of (grind (arith, common_steps), search rules)
