use Rattle.pyc_lower.proofs.InputLemmas.{input_other}
use Rattle.pyc_lower.proofs.expression_input.is_input.Goals as goal

pub returns-in_default : goal.returns-in_default
returns-in_default c =
    input_other c.args.tree.now c.in_default.not-Yield c.in_default.not-YieldFrom c.in_default.not-Bare
