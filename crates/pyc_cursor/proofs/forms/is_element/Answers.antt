use Rattle.std.proofs.Common.{◌≡◌, ◌∙◌, ap, sym}
use Rattle.pyc_tree.specs.Well.{is_element}
use Rattle.pyc_tree.specs.View.{tree_of}
use Rattle.pyc_tree.proofs.FormLemmas.{element_other}
use Rattle.pyc_cursor.proofs.forms.is_element.Goals as goal

pub returns-in_default-matches : goal.returns-in_default-matches
returns-in_default-matches c = element_other c.args.element.now c.in_default-matches.not-Entry ∙ ap (λ s. is_element s (tree_of c.args.element.now)) (sym c.in-Dict.is)
