use Rattle.pyc_lower.proofs.InputLemmas.{starred_other}
use Rattle.pyc_lower.proofs.expression_input.is_starred.Goals as goal

pub returns-in_default : goal.returns-in_default
returns-in_default c = starred_other c.args.tree.now c.in_default.not-Starred
