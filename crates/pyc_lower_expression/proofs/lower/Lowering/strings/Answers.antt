use Rattle.pyc_ast.proofs.ViewLemmas.{views}
use Rattle.pyc_lower_expression.proofs.LoweredForms.{lowered}
use Rattle.std.proofs.Common.{arith, rules}
use Rattle.pyc_lower_expression.proofs.lower.Lowering.strings.Goals as goal

pub returns : goal.returns
returns g c = first_of (grind (arith, views, lowered), search rules)

pub returns-then-is_empty : goal.returns-then-is_empty
returns-then-is_empty g c = first_of (grind (arith, views, lowered), search rules)
