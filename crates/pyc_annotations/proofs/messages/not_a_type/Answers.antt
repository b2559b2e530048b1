use Rattle.std.proofs.Common.{arith, rules}
use Rattle.std.proofs.lemmas.Grind.{common_steps}
use Rattle.pyc_annotations.specs.Annotations.{not_a_type}
use Rattle.pyc_annotations.proofs.messages.not_a_type.Goals as goal

pub returns : goal.returns
unfolding not_a_type
returns g c = first_of (grind (arith, common_steps), search rules)

pub returns-in_err-names : goal.returns-in_err-names
unfolding not_a_type
returns-in_err-names g c = first_of (grind (arith, common_steps), search rules)

pub returns-in_err-text : goal.returns-in_err-text
unfolding not_a_type
returns-in_err-text g c = first_of (grind (arith, common_steps), search rules)
