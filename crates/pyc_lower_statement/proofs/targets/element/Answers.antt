use Rattle.std.proofs.Common.{◌∙◌, sym}
use Rattle.pyc_ast.specs.TargetView.{target_of}
use Rattle.pyc_ast.proofs.TargetViewLemmas.{view_target_element}
use Rattle.pyc_lower_statement.proofs.TargetLemmas.{element_other}
use Rattle.pyc_lower_statement.proofs.targets.element.Goals as goal

pub returns-in_default : goal.returns-in_default
returns-in_default c = view_target_element _ _ ∙ sym (element_other (target_of c.args.target) c.args.item.now c.in_default.not-Starred)
