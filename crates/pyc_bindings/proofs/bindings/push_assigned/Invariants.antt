use Rattle.std.proofs.Common.{◌≡◌, ◌++◌, map, flat_map, drop}
use Rattle.pyc_ast.specs.ExprView.{expr_of}
use Rattle.pyc_ast.specs.TargetView.{target_of}
use Rattle.pyc_bindings.specs.Bindings.{single_bindings, assigned}
use Rattle.pyc_bindings.specs.BindingView.{binding_of}
use Rattle.pyc_bindings.proofs.bindings.push_assigned.Given as goal

-- the bindings so far, with those of the targets that are left, are all
abbrev pub invariant-loop-target : goal.invariant-loop-target
invariant-loop-target l =
    let each = single_bindings l.place (assigned (expr_of l.value.value)) in
    map binding_of l.found.items ++ flat_map each (map target_of (drop l.target-index l.targets))
    ≡ map binding_of l.fn.found.items ++ flat_map each (map target_of l.targets)
