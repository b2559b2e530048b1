use Rattle.pyc_tree.proofs.ViewLemmas.{views}
use Rattle.std.proofs.Common.{◌≡◌, arith, rules}
use Rattle.pyc_tree.proofs.FormLemmas.{entry_other}
use Rattle.pyc_cursor.proofs.forms.is_entry.Goals as goal

pub returns-in_default : goal.returns-in_default
returns-in_default c = entry_other c.args.item.now c.in_default.not-Entry c.in_default.not-Mapping

pub returns-in-Entry : goal.returns-in-Entry
returns-in-Entry c = first_of (grind (arith, views), search rules)

pub returns-in-Mapping : goal.returns-in-Mapping
returns-in-Mapping c = first_of (grind (arith, views), search rules)
