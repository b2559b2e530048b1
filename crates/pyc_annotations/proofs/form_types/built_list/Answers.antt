use Rattle.std.proofs.Common.{arith, rules}
use Rattle.std.proofs.lemmas.Grind.{common_steps}
use Rattle.pyc_annotations.proofs.form_types.built_list.Goals as goal

pub returns-in_err-clone-in-len1 : goal.returns-in_err-clone-in-len1
returns-in_err-clone-in-len1 c = first_of (grind (arith, common_steps), search rules)

pub returns-in_ok-clone-in-len1 : goal.returns-in_ok-clone-in-len1
returns-in_ok-clone-in-len1 c = first_of (grind (arith, common_steps), search rules)
