use Rattle.std.proofs.Common.{◌≡◌, ◌∙◌, ap}
use Rattle.pyc_tree.specs.View.{tree_of}
use Rattle.pyc_tree.proofs.FormLemmas.{plain_argument_other}
use Rattle.pyc_tree.proofs.ViewLemmas.{view_Argument}
use Rattle.pyc_tree.proofs.tree.Expr.into_argument.Goals as goal

pub returns-in-Argument-clause-found : goal.returns-in-Argument-clause-found
returns-in-Argument-clause-found c = ap tree_of c.in-Argument.is ∙ view_Argument c.in-Argument.value

pub returns-in_default : goal.returns-in_default
returns-in_default c = record { found = record {}; none = plain_argument_other c.args.self c.in_default.not-Argument }
