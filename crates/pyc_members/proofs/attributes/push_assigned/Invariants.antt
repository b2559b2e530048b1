use Rattle.std.proofs.Common.{◌≡◌, ◌++◌, map, flat_map, drop}
use Rattle.pyc_ast.specs.ExprView.{expr_of}
use Rattle.pyc_ast.specs.TargetView.{target_of}
use Rattle.pyc_members.specs.Attributes.{single_attributes, assigned}
use Rattle.pyc_members.specs.AttributeView.{attribute_of, receiver_of}
use Rattle.pyc_members.proofs.attributes.push_assigned.Given as goal

-- the attributes so far, with those of the targets that are left, are all
abbrev pub invariant-loop-target : goal.invariant-loop-target
invariant-loop-target l =
    let each = single_attributes (receiver_of l.receiver) (assigned (expr_of l.value.value)) in
    map attribute_of l.found.items ++ flat_map each (map target_of (drop l.target-index l.targets))
    ≡ map attribute_of l.fn.found.items ++ flat_map each (map target_of l.targets)
