use Rattle.std.proofs.Common.{◌≡◌, map, drop}
use Rattle.pyc_bindings.specs.Bindings.{Binding}
use Rattle.pyc_bindings.specs.BindingView.{binding_of}
use Rattle.pyc_overrides.specs.Names.{with_names}
use Rattle.pyc_overrides.proofs.names.add_bindings.Given as goal

-- the names so far, with those that are left, are all
abbrev pub invariant-loop-binding : goal.invariant-loop-binding
invariant-loop-binding l =
    with_names l.names.keys (map (λ (b : Binding). b.name) (map binding_of (drop l.binding-index l.bindings)))
    ≡ with_names l.fn.names.keys (map (λ (b : Binding). b.name) (map binding_of l.bindings))
