use Rattle.pyc_assignments.specs.Storing.{target_type_stored}
use Rattle.pyc_obligations.proofs.Steps.{performing}
use Rattle.std.proofs.Common.{arith, rules}
use Rattle.pyc_assignments.proofs.storing.AssignedValue.target_type_stored.Goals as goal

pub returns-in_err-want_required : goal.returns-in_err-want_required
unfolding target_type_stored
returns-in_err-want_required g c = first_of (grind (arith, performing), search rules)

pub returns-in_err-state : goal.returns-in_err-state
unfolding target_type_stored
returns-in_err-state g c = first_of (grind (arith, performing), search rules)

pub returns : goal.returns
unfolding target_type_stored
returns g c = first_of (grind (arith, performing), search rules)
