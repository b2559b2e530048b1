use Rattle.std.proofs.Common.{◌∙◌}
use Rattle.pyc_ast.specs.ExprView.{expr_of}
use Rattle.pyc_ast.proofs.ViewLemmas.{view_element}
use Rattle.pyc_lower_expression.proofs.OtherForms.{element_other}
use Rattle.pyc_lower_expression.proofs.build.element.Goals as goal

pub returns-in_default : goal.returns-in_default
returns-in_default c = view_element _ _ ∙ element_other (expr_of c.args.value) c.args.item.now c.in_default.not-Starred
