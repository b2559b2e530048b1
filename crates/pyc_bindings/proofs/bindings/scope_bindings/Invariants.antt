use Rattle.std.proofs.Common.{◌≡◌, ◌++◌, map, flat_map, drop}
use Rattle.pyc_bindings.specs.Bindings.{bindings_of_part}
use Rattle.pyc_bindings.specs.BindingView.{binding_of}
use Rattle.pyc_bindings.specs.ScopeView.{part_of}
use Rattle.pyc_bindings.proofs.bindings.scope_bindings.Given as goal

-- the bindings so far, with those of the parts that are left, are all
abbrev pub invariant-loop-part : goal.invariant-loop-part
invariant-loop-part l =
    map binding_of l.found.items ++ flat_map bindings_of_part (map part_of (drop l.part-index l.part-items))
    ≡ flat_map bindings_of_part (map part_of l.part-items)
