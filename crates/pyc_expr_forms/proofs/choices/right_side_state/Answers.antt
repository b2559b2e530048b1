use Rattle.std.proofs.Common.{arith, rules}
use Rattle.std.proofs.lemmas.Grind.{common_steps}
use Rattle.pyc_expr_forms.proofs.choices.right_side_state.Goals as goal

pub returns-in-And : goal.returns-in-And
returns-in-And c = first_of (grind (arith, common_steps), search rules)

pub returns-in-Or : goal.returns-in-Or
returns-in-Or c = first_of (grind (arith, common_steps), search rules)
