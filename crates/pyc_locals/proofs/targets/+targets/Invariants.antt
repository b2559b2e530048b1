use Rattle.std.proofs.Common.{◌≡◌, ◌++◌, map, drop}
use Rattle.pyc_ast.specs.Targets.{target_elements}
use Rattle.pyc_ast.specs.TargetView.{target_element_of}
use Rattle.pyc_locals.specs.AssignedPlaces.{elements_places}
use Rattle.pyc_locals.proofs.targets.+targets.Given as goal

-- the places so far, with those of the elements that are left, are all
abbrev pub invariant-push_elements-loop-element : goal.invariant-push_elements-loop-element
invariant-push_elements-loop-element l =
    l.places.items ++ elements_places (target_elements (map target_element_of (drop l.element-index l.elements)))
    ≡ l.fn.places.items ++ elements_places (target_elements (map target_element_of l.elements))
