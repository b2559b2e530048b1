-- The plain target that one of the code is.
use Rattle.std.specs.Prelude.{List, map}
use Rattle.pyc_ast.specs.declared.target.Target.{Target as TargetOf}
use Rattle.pyc_ast.specs.declared.target.TargetElement.{TargetElement as TargetElementOf}
use Rattle.pyc_ast.specs.declared.target.TargetForm.{TargetForm as TargetFormOf}
use Rattle.pyc_ast.specs.declared.target.TargetForm.TheFolds.{fold-TargetForm, fold-Target, fold-TargetElement}
use Rattle.pyc_ast.specs.declared.target.TargetForm.TheOpen.{TargetForm-F, Target-F, TargetElement-F}
use Rattle.pyc_ast.specs.declared.target.TargetForm.TheOpen as layer
use Rattle.pyc_ast.specs.ExprView.{expr_of, index_of}
use Rattle.pyc_ast.specs.Targets.{Target, TargetForm, TargetElement, target_elements}
use Rattle.pyc_ast.specs.Targets as plain

-- what one layer of the code is, over what its parts are
abbrev pub target_form_step : TargetForm-F TargetForm Target TargetElement → TargetForm
target_form_step (layer.Name n) = plain.name n
target_form_step (layer.Attribute x n) = plain.attribute (expr_of x.value) n
target_form_step (layer.Subscript x i) = plain.subscript (expr_of x.value) (index_of i.value)
target_form_step (layer.Unpacking elements) = plain.unpacking (target_elements elements.items)

abbrev pub target_step : Target-F TargetForm Target TargetElement → Target
target_step x = plain.target x.at x.inside x.form

abbrev pub target_element_step : TargetElement-F TargetForm Target TargetElement → TargetElement
target_element_step x = plain.target_element x.is_starred x.target

-- the form of a target that one of the code is
abbrev pub target_form_of : TargetFormOf → TargetForm
target_form_of = fold-TargetForm TargetForm Target TargetElement target_form_step target_step target_element_step

-- the plain target that one of the code is
abbrev pub target_of : TargetOf → Target
target_of = fold-Target TargetForm Target TargetElement target_form_step target_step target_element_step

abbrev pub target_element_of : TargetElementOf → TargetElement
target_element_of = fold-TargetElement TargetForm Target TargetElement target_form_step target_step target_element_step
