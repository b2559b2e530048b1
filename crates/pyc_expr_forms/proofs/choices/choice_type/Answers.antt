use Rattle.pyc_expr_forms.specs.Choices.{choice_type}
use Rattle.pyc_obligations.proofs.Steps.{performing}
use Rattle.std.proofs.Common.{arith, rules}
use Rattle.pyc_expr_forms.proofs.choices.choice_type.Goals as goal

pub returns-in_err-infer_freely : goal.returns-in_err-infer_freely
unfolding choice_type
returns-in_err-infer_freely g c = first_of (grind (arith, performing), search rules)

pub returns-in_err-states : goal.returns-in_err-states
unfolding choice_type
returns-in_err-states g c = first_of (grind (arith, performing), search rules)

pub returns : goal.returns
unfolding choice_type
returns g c = first_of (grind (arith, performing), search rules)
