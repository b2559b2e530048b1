use Rattle.std.proofs.Common.{◌≡◌, map, drop}
use Rattle.pyc_assignments.specs.Unpacking.{has_starred}
use Rattle.pyc_ast.specs.Targets.{target_elements}
use Rattle.pyc_ast.specs.TargetView.{target_element_of}
use Rattle.pyc_assignments.proofs.unpacking.has_starred.Given as goal

-- the targets that are left decide
abbrev pub invariant-loop-element : goal.invariant-loop-element
invariant-loop-element l =
    has_starred (target_elements (map target_element_of (drop l.element-index l.elements))) ≡ has_starred (target_elements (map target_element_of l.elements))
