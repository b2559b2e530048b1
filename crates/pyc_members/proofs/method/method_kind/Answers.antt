use Rattle.std.proofs.Common.{arith, rules}
use Rattle.std.proofs.lemmas.Grind.{common_steps}
use Rattle.pyc_members.specs.Methods.{method_kind}
use Rattle.pyc_members.proofs.method.method_kind.Goals as goal

pub returns-else-has_class : goal.returns-else-has_class
unfolding method_kind
returns-else-has_class c = first_of (grind (arith, common_steps), search rules)

pub returns-then-has_class : goal.returns-then-has_class
unfolding method_kind
returns-then-has_class c = first_of (grind (arith, common_steps), search rules)

pub returns-then-has_property : goal.returns-then-has_property
unfolding method_kind
returns-then-has_property c = first_of (grind (arith, common_steps), search rules)

pub returns-then-has_static : goal.returns-then-has_static
unfolding method_kind
returns-then-has_static c = first_of (grind (arith, common_steps), search rules)
