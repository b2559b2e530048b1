use Rattle.std.proofs.Common.{◌≡◌, ◌∙◌}
use Rattle.pyc_tree.proofs.FormLemmas.{item_other}
use Rattle.pyc_cursor.proofs.forms.is_item.Goals as goal

pub returns-in_default : goal.returns-in_default
returns-in_default c = c.is_at-in_default.ensures ∙ item_other c.args.item.now c.in_default.not-Starred
