use Rattle.std.proofs.Common.{◌≡◌, ◌||◌, ℕ, List, map, drop, bytes_eq}
use Rattle.indexmap.specs.IndexSet.{contains_by}
use Rattle.pyc_bindings.specs.BindingView.{binding_of}
use Rattle.pyc_members.specs.ClassBodies.{has_setter_of}
use Rattle.pyc_members.proofs.class_body.setters.Given as goal

-- a name has a setter among all where it is found so far, or has one among the bindings that are left
abbrev pub invariant-loop-binding : goal.invariant-loop-binding
invariant-loop-binding l =
    (n : List ℕ)
    → (contains_by (bytes_eq n) l.names || has_setter_of (map binding_of (drop l.binding-index l.bindings)) n)
    ≡ has_setter_of (map binding_of l.bindings) n
