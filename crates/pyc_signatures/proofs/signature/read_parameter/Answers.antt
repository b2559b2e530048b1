use Rattle.pyc_signatures.specs.Signatures.{parameter_reading}
use Rattle.pyc_signatures.proofs.Steps.{performing}
use Rattle.std.proofs.Common.{arith, rules}
use Rattle.pyc_signatures.proofs.signature.read_parameter.Goals as goal

pub returns-in_err-ty : goal.returns-in_err-ty
unfolding parameter_reading
returns-in_err-ty g c = first_of (grind (arith, performing), search rules)

pub returns : goal.returns
unfolding parameter_reading
returns g c = first_of (grind (arith, performing), search rules)
