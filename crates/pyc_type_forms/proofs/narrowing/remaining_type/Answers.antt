use Rattle.std.proofs.lemmas.Grind.{common_steps}
use Rattle.std.proofs.Common.{arith, rules}
use Rattle.pyc_type_forms.proofs.narrowing.remaining_type.Goals as goal

pub returns-in_err-clone : goal.returns-in_err-clone
returns-in_err-clone c = first_of (grind (arith, common_steps), search rules)

pub returns-in_err-union_of : goal.returns-in_err-union_of
returns-in_err-union_of c = first_of (grind (arith, common_steps), search rules)

pub returns-in_ok-clone : goal.returns-in_ok-clone
returns-in_ok-clone c = first_of (grind (arith, common_steps), search rules)

pub returns-in_ok-union_of : goal.returns-in_ok-union_of
returns-in_ok-union_of c = first_of (grind (arith, common_steps), search rules)

pub returns-then-is_empty : goal.returns-then-is_empty
returns-then-is_empty c = first_of (grind (arith, common_steps), search rules)
