use Rattle.pyc_expr_forms.specs.Choices.{orelse_type}
use Rattle.pyc_obligations.proofs.Steps.{performing}
use Rattle.std.proofs.Common.{arith, rules}
use Rattle.pyc_expr_forms.proofs.choices.orelse_type.Goals as goal

pub returns-in_err-orelse : goal.returns-in_err-orelse
unfolding orelse_type
returns-in_err-orelse g c = first_of (grind (arith, performing), search rules)

pub returns : goal.returns
unfolding orelse_type
returns g c = first_of (grind (arith, performing), search rules)
