use Rattle.std.proofs.Common.{◌∙◌, ap, sym}
use Rattle.pyc_ast.specs.declared.expr.ArgumentKind.TheVariants.{Positional}
use Rattle.pyc_ast.specs.Exprs as plain
use Rattle.pyc_ast.specs.Exprs.{at_of}
use Rattle.pyc_ast.specs.ExprView.{expr_of}
use Rattle.pyc_ast.proofs.ViewLemmas.{view_argument, view_expr}
use Rattle.pyc_lower_expression.proofs.OtherForms.{argument_other}
use Rattle.pyc_lower_atom.specs.OriginView.{origin_of}
use Rattle.pyc_lower_expression.proofs.build.argument.Goals as goal

pub returns-in_default : goal.returns-in_default
returns-in_default c =
    view_argument _ _ _
    ∙ ap (λ at. plain.argument at Positional (expr_of c.args.value)) (sym (ap at_of (view_expr c.args.value)))
    ∙ argument_other (origin_of c.args.origin) (expr_of c.args.value) c.args.item.now c.in_default.not-Starred c.in_default.not-Keyword c.in_default.not-DoubleStarred
