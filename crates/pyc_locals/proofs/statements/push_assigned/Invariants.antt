use Rattle.std.proofs.Common.{◌≡◌, ◌++◌, map, flat_map, drop}
use Rattle.pyc_bindings.specs.ScopeView.{part_of}
use Rattle.pyc_locals.specs.AssignedPlaces.{places_of_part}
use Rattle.pyc_locals.proofs.statements.push_assigned.Given as goal

-- the places so far, with those of the parts that are left, are all
abbrev pub invariant-loop-part : goal.invariant-loop-part
invariant-loop-part l =
    l.places.items ++ flat_map places_of_part (map part_of (drop l.part-index l.part-items))
    ≡ l.fn.places.items ++ flat_map places_of_part (map part_of l.part-items)
