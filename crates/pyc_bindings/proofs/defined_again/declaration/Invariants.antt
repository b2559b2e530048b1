use Rattle.std.proofs.Common.{◌≡◌, map, drop}
use Rattle.pyc_bindings.specs.BindingView.{binding_of}
use Rattle.pyc_bindings.specs.Redefinitions.{declaration}
use Rattle.pyc_bindings.proofs.defined_again.declaration.Given as goal

-- the declaration is among the bindings that are left
abbrev pub invariant-loop-binding : goal.invariant-loop-binding
invariant-loop-binding l =
    declaration (map binding_of (drop l.binding-index l.bindings)) l.name ≡ declaration (map binding_of l.bindings) l.name
