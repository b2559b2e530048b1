use Rattle.pyc_assignments.specs.Assignments.{check_with_value}
use Rattle.pyc_obligations.proofs.Steps.{performing}
use Rattle.std.proofs.Common.{arith, rules}
use Rattle.pyc_assignments.proofs.annotated.AnnotatedTarget.check_with_value.Goals as goal

pub returns-in_err-early : goal.returns-in_err-early
unfolding check_with_value
returns-in_err-early g c = first_of (grind (arith, performing), search rules)

pub returns : goal.returns
unfolding check_with_value
returns g c = first_of (grind (arith, performing), search rules)
