use Rattle.pyc_attributes.proofs.Steps.{performing}
use Rattle.std.proofs.Common.{arith, rules}
use Rattle.pyc_attributes.proofs.found.no_class_member.Goals as goal

pub returns-in_err-is_unknown : goal.returns-in_err-is_unknown
returns-in_err-is_unknown g c = first_of (grind (arith, performing), search rules)

pub returns-in_ok-is_unknown : goal.returns-in_ok-is_unknown
returns-in_ok-is_unknown g c = first_of (grind (arith, performing), search rules)
