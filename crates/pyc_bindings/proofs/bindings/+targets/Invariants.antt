use Rattle.std.proofs.Common.{◌≡◌, ◌++◌, map, drop}
use Rattle.pyc_ast.specs.Targets.{target_elements}
use Rattle.pyc_ast.specs.TargetView.{target_element_of}
use Rattle.pyc_bindings.specs.Bindings.{elements_bindings}
use Rattle.pyc_bindings.specs.BindingView.{binding_of}
use Rattle.pyc_bindings.proofs.bindings.+targets.Given as goal

-- the bindings so far, with those of the elements that are left, are all
abbrev pub invariant-push_elements-loop-element : goal.invariant-push_elements-loop-element
invariant-push_elements-loop-element l =
    map binding_of l.found.items ++ elements_bindings (target_elements (map target_element_of (drop l.element-index l.elements))) l.place
    ≡ map binding_of l.fn.found.items ++ elements_bindings (target_elements (map target_element_of l.elements)) l.place
