use Rattle.std.proofs.Common.{◌≡◌, map, take}
use Rattle.pyc_bindings.specs.Bindings.{Binding}
use Rattle.pyc_bindings.specs.BindingView.{binding_of}
use Rattle.pyc_functions.proofs.function_names.bound_names.Given as goal

-- the names of the bindings so far are added
abbrev pub invariant-loop-binding : goal.invariant-loop-binding
invariant-loop-binding l =
    l.names.items ≡ map (λ (b : Binding). b.name) (map binding_of (take l.binding-index l.bindings))
