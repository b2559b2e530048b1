use Rattle.pyc_tree.proofs.ViewLemmas.{views}
use Rattle.std.proofs.Common.{◌≡◌, ◌∙◌, arith, rules}
use Rattle.pyc_tree.proofs.FormLemmas.{parameter_other}
use Rattle.pyc_cursor.proofs.forms.is_parameter.Goals as goal

pub returns-in_default : goal.returns-in_default
returns-in_default c = c.is_late_parameter.ensures ∙ parameter_other c.args.is_annotated c.args.item.now c.in_default.not-StarParameter c.in_default.not-BareStar

pub returns-in-BareStar : goal.returns-in-BareStar
returns-in-BareStar c = first_of (grind (arith, views), search rules)

pub returns-in-StarParameter : goal.returns-in-StarParameter
returns-in-StarParameter c = first_of (grind (arith, views), search rules)
