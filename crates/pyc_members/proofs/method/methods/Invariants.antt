use Rattle.std.proofs.Common.{◌≡◌, ◌++◌, map, flat_map, drop}
use Rattle.pyc_bindings.specs.ScopeView.{part_of}
use Rattle.pyc_members.specs.Methods.{methods_of_part}
use Rattle.pyc_members.specs.MethodView.{method_of}
use Rattle.pyc_members.proofs.method.methods.Given as goal

-- the methods so far, with those of the parts that are left, are all
abbrev pub invariant-loop-part : goal.invariant-loop-part
invariant-loop-part l =
    map method_of l.found.items ++ flat_map methods_of_part (map part_of (drop l.part-index l.part-items))
    ≡ flat_map methods_of_part (map part_of l.part-items)
