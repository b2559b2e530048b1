use Rattle.pyc_expr_forms.specs.Operations.{chain_type}
use Rattle.pyc_obligations.proofs.Steps.{performing}
use Rattle.std.proofs.Common.{arith, rules}
use Rattle.pyc_expr_forms.proofs.operations.chain_type.Goals as goal

pub returns-in_err-infer_comparisons : goal.returns-in_err-infer_comparisons
unfolding chain_type
returns-in_err-infer_comparisons g c = first_of (grind (arith, performing), search rules)

pub returns : goal.returns
unfolding chain_type
returns g c = first_of (grind (arith, performing), search rules)
