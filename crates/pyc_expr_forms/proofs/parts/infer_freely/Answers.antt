use Rattle.pyc_expr_forms.specs.Contexts.{infer_freely}
use Rattle.pyc_obligations.proofs.Steps.{performing}
use Rattle.std.proofs.Common.{arith, rules}
use Rattle.pyc_expr_forms.proofs.parts.infer_freely.Goals as goal

pub returns-in_err-part : goal.returns-in_err-part
unfolding infer_freely
returns-in_err-part g c = first_of (grind (arith, performing), search rules)

pub returns : goal.returns
unfolding infer_freely
returns g c = first_of (grind (arith, performing), search rules)
