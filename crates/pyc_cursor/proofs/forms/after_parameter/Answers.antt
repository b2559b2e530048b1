use Rattle.pyc_tree.proofs.ViewLemmas.{views}
use Rattle.std.proofs.Common.{◌≡◌, arith, rules}
use Rattle.pyc_tree.proofs.FormLemmas.{after_parameter_other}
use Rattle.pyc_cursor.proofs.forms.after_parameter.Goals as goal

pub returns-in_default : goal.returns-in_default
returns-in_default c = after_parameter_other c.args.here c.args.is_annotated c.args.item.now c.in_default.not-StarParameter c.in_default.not-BareStar c.in_default.not-DoubleParameter

pub returns-in-BareStar : goal.returns-in-BareStar
returns-in-BareStar c = first_of (grind (arith, views), search rules)

pub returns-in-DoubleParameter : goal.returns-in-DoubleParameter
returns-in-DoubleParameter c = first_of (grind (arith, views), search rules)

pub returns-in-StarParameter : goal.returns-in-StarParameter
returns-in-StarParameter c = first_of (grind (arith, views), search rules)
