use Rattle.pyc_tree.proofs.ViewLemmas.{views}
use Rattle.std.proofs.Common.{◌≡◌, ◌∙◌, arith, rules}
use Rattle.pyc_tree.proofs.FormLemmas.{index_other}
use Rattle.pyc_cursor.proofs.forms.is_index.Goals as goal

pub returns-in_default : goal.returns-in_default
returns-in_default c = c.is_at.ensures ∙ index_other c.args.item.now c.in_default.not-Slice c.in_default.not-Stride

pub returns-in-Slice : goal.returns-in-Slice
returns-in-Slice c = first_of (grind (arith, views), search rules)

pub returns-in-Slice-2 : goal.returns-in-Slice-2
returns-in-Slice-2 c = first_of (grind (arith, views), search rules)
