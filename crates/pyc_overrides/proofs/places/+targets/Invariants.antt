use Rattle.std.proofs.Common.{◌≡◌, map, drop}
use Rattle.pyc_ast.specs.Targets.{target_elements}
use Rattle.pyc_ast.specs.TargetView.{target_element_of}
use Rattle.pyc_overrides.specs.Places.{place_in_elements}
use Rattle.pyc_overrides.proofs.places.+targets.Given as goal

-- the place that is sought is among the elements that are left
abbrev pub invariant-place_in_elements-loop-element : goal.invariant-place_in_elements-loop-element
invariant-place_in_elements-loop-element l =
    place_in_elements (target_elements (map target_element_of (drop l.element-index l.elements))) l.name
    ≡ place_in_elements (target_elements (map target_element_of l.elements)) l.name
