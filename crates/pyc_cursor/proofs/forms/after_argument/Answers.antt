use Rattle.std.proofs.Common.{◌≡◌}
use Rattle.pyc_tree.proofs.FormLemmas.{after_argument_other}
use Rattle.pyc_cursor.proofs.forms.after_argument.Goals as goal

pub returns-in_default : goal.returns-in_default
returns-in_default c = after_argument_other c.args.here c.args.item.now c.in_default.not-DoubleStarred c.in_default.not-Keyword
