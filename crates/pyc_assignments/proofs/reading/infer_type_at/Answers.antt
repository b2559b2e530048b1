use Rattle.pyc_assignments.specs.Reads.{infer_type_at}
use Rattle.pyc_obligations.proofs.Steps.{performing}
use Rattle.std.proofs.Common.{arith, rules}
use Rattle.pyc_assignments.proofs.reading.infer_type_at.Goals as goal

pub returns-in_err-value : goal.returns-in_err-value
unfolding infer_type_at
returns-in_err-value g c = first_of (grind (arith, performing), search rules)

pub returns : goal.returns
unfolding infer_type_at
returns g c = first_of (grind (arith, performing), search rules)
