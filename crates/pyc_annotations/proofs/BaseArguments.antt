-- What an argument of the code is as a base, by its parts.
use Rattle.std.proofs.Common.{◌≡◌, ap, rules}
use Rattle.pyc_annotations.specs.Bases.{argument_base, base_of_argument}
use Rattle.pyc_ast.specs.declared.expr.Argument.{Argument}
use Rattle.pyc_ast.specs.declared.expr.DictItem.TheFolds.{the_lemmas}
use Rattle.pyc_ast.specs.Exprs.{argument}
use Rattle.pyc_ast.specs.ExprView.{argument_of, expr_of}
use Rattle.pyc_names.specs.Interfaces.{Interface}

view_argument : (x : Argument) → argument_of x ≡ argument x.at x.kind (expr_of x.value)
view_argument x = search (rules, the_lemmas)

pub base_of_parts : (file : Interface) (x : Argument) → base_of_argument file (argument_of x) ≡ argument_base file x.at x.kind (expr_of x.value)
unfolding base_of_argument
base_of_parts file x = ap (base_of_argument file) (view_argument x)
