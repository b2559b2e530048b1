use Rattle.std.proofs.Common.{◌≡◌, ◌∙◌}
use Rattle.pyc_tree.proofs.FormLemmas.{late_parameter_other}
use Rattle.pyc_cursor.proofs.forms.is_late_parameter.Goals as goal

pub returns-in_default : goal.returns-in_default
returns-in_default c = c.is_plain_parameter.ensures ∙ late_parameter_other c.args.is_annotated c.args.item.now c.in_default.not-DoubleParameter
