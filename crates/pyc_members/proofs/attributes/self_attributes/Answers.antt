use Rattle.pyc_members.specs.Attributes.{attributes_of}
use Rattle.std.proofs.lemmas.Grind.{common_steps}
use Rattle.std.proofs.Common.{arith, rules}
use Rattle.pyc_members.proofs.attributes.self_attributes.Goals as goal

pub loop-method-init : goal.loop-method-init
unfolding attributes_of
loop-method-init c = first_of (grind (arith, common_steps), search rules)

pub returns : goal.returns
unfolding attributes_of
returns c = first_of (grind (arith, common_steps), search rules)

pub returns-in_err-methods : goal.returns-in_err-methods
unfolding attributes_of
returns-in_err-methods c = first_of (grind (arith, common_steps), search rules)

pub returns-in_err-push_method : goal.returns-in_err-push_method
unfolding attributes_of
returns-in_err-push_method c = first_of (grind (arith, common_steps), search rules)
