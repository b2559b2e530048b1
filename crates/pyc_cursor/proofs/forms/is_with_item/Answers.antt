use Rattle.std.proofs.Common.{◌≡◌}
use Rattle.pyc_tree.proofs.FormLemmas.{with_item_other}
use Rattle.pyc_cursor.proofs.forms.is_with_item.Goals as goal

pub returns-in_default : goal.returns-in_default
returns-in_default c = with_item_other c.args.item.now c.in_default.not-WithItem
