use Rattle.pyc_tree.proofs.ViewLemmas.{views}
use Rattle.std.proofs.Common.{◌≡◌, arith, rules}
use Rattle.pyc_tree.proofs.FormLemmas.{last_argument_other}
use Rattle.pyc_cursor.proofs.forms.is_last_argument.Goals as goal

pub returns-in_default : goal.returns-in_default
returns-in_default c = last_argument_other c.args.item.now c.in_default.not-Keyword c.in_default.not-DoubleStarred

pub returns-in-Keyword : goal.returns-in-Keyword
returns-in-Keyword c = first_of (grind (arith, views), search rules)

pub returns-in-Keyword-2 : goal.returns-in-Keyword-2
returns-in-Keyword-2 c = first_of (grind (arith, views), search rules)
