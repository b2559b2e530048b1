use Rattle.pyc_ast.proofs.ViewLemmas.{views}
use Rattle.pyc_lower_expression.proofs.LoweredForms.{lowered}
use Rattle.std.proofs.Common.{arith, rules}
use Rattle.pyc_lower_expression.proofs.lower.Lowering.string_annotation.Goals as goal

pub returns-in-None : goal.returns-in-None
returns-in-None g c = first_of (grind (arith, views, lowered), search rules)

pub returns-in-Some : goal.returns-in-Some
returns-in-Some g c = first_of (grind (arith, views, lowered), search rules)

pub returns-in_err-expr : goal.returns-in_err-expr
returns-in_err-expr g c = first_of (grind (arith, views, lowered), search rules)

pub returns-then-not-is_plain : goal.returns-then-not-is_plain
returns-then-not-is_plain g c = first_of (grind (arith, views, lowered), search rules)
