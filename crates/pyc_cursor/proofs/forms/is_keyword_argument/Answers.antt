use Rattle.std.proofs.Common.{◌≡◌, ◌∙◌}
use Rattle.pyc_tree.proofs.FormLemmas.{keyword_argument_other}
use Rattle.pyc_cursor.proofs.forms.is_keyword_argument.Goals as goal

pub returns-in_default : goal.returns-in_default
returns-in_default c = c.is_last_argument.ensures ∙ keyword_argument_other c.args.item.now c.in_default.not-Starred
