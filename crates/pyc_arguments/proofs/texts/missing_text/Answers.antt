use Rattle.std.proofs.Common.{arith, rules}
use Rattle.std.proofs.lemmas.Grind.{common_steps}
use Rattle.pyc_arguments.proofs.texts.missing_text.Goals as goal

pub returns-in-Place : goal.returns-in-Place
returns-in-Place c = first_of (grind (arith, common_steps), search rules)

pub returns-in_err-from_str-in-Name : goal.returns-in_err-from_str-in-Name
returns-in_err-from_str-in-Name c = first_of (grind (arith, common_steps), search rules)

pub returns-in_ok-from_str-in-Name : goal.returns-in_ok-from_str-in-Name
returns-in_ok-from_str-in-Name c = first_of (grind (arith, common_steps), search rules)
