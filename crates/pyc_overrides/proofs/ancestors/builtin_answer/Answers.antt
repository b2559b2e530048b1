use Rattle.pyc_obligations.proofs.Steps.{performing}
use Rattle.std.proofs.Common.{arith, rules}
use Rattle.pyc_overrides.proofs.ancestors.builtin_answer.Goals as goal

pub returns-in_err-ty : goal.returns-in_err-ty
returns-in_err-ty c = first_of (grind (arith, performing), search rules)
