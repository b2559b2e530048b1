use Rattle.pyc_lower.proofs.InputLemmas.{statement_other}
use Rattle.pyc_lower.proofs.expression_input.expression_of_statement.Goals as goal

pub returns-in_default : goal.returns-in_default
returns-in_default c = statement_other c.args.statement.now c.in_default.not-Expression
