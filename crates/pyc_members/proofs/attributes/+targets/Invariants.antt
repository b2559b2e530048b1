use Rattle.std.proofs.Common.{◌≡◌, ◌++◌, List, map, drop}
use Rattle.pyc_ast.specs.declared.target.TargetElement.{TargetElement}
use Rattle.pyc_ast.specs.Targets.{target_elements}
use Rattle.pyc_ast.specs.TargetView.{target_element_of}
use Rattle.pyc_members.specs.Attributes.{SelfAttribute, elements_attributes}
use Rattle.pyc_members.specs.AttributeView.{attribute_of, receiver_of}
use Rattle.pyc_members.proofs.attributes.+targets.Given as goal

-- the attributes so far, with those of the elements that are left, are all
abbrev pub invariant-push_elements-loop-element : goal.invariant-push_elements-loop-element
invariant-push_elements-loop-element l =
    let each : List TargetElement → List SelfAttribute =
    λ elements. elements_attributes (target_elements (map target_element_of elements)) (receiver_of l.receiver) in
    map attribute_of l.found.items ++ each (drop l.element-index l.elements)
    ≡ map attribute_of l.fn.found.items ++ each l.elements
