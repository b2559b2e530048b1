use Rattle.pyc_tree.proofs.ViewLemmas.{views}
use Rattle.std.proofs.Common.{◌≡◌, ◌∙◌, arith, rules}
use Rattle.pyc_tree.proofs.FormLemmas.{argument_other}
use Rattle.pyc_cursor.proofs.forms.is_argument.Goals as goal

pub returns-in_default : goal.returns-in_default
returns-in_default c = c.is_keyword_argument.ensures ∙ argument_other c.args.item.now c.in_default.not-Argument

pub returns-in-Argument : goal.returns-in-Argument
returns-in-Argument c = first_of (grind (arith, views), search rules)
