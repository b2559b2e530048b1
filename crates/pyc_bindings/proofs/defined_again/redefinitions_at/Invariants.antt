use Rattle.std.proofs.Common.{◌≡◌, ◌++◌, [], map, take, drop}
use Rattle.pyc_bindings.specs.BindingView.{binding_of}
use Rattle.pyc_bindings.specs.Redefinitions.{redefinitions_after}
use Rattle.pyc_bindings.specs.RedefinitionView.{redefinition_of}
use Rattle.pyc_bindings.proofs.defined_again.redefinitions_at.Given as goal

-- what was found so far, with what the bindings that are left define again, is all
abbrev pub invariant-loop-i : goal.invariant-loop-i
invariant-loop-i l =
    map redefinition_of l.found.items
    ++ redefinitions_after (map binding_of (take l.i l.bindings)) (map binding_of (drop l.i l.bindings))
    ≡ redefinitions_after [] (map binding_of l.bindings)
