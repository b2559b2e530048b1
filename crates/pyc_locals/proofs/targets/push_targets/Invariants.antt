use Rattle.std.proofs.Common.{◌≡◌, ◌++◌, map, flat_map, drop}
use Rattle.pyc_ast.specs.TargetView.{target_of}
use Rattle.pyc_locals.specs.AssignedPlaces.{places_in}
use Rattle.pyc_locals.proofs.targets.push_targets.Given as goal

-- the places so far, with those of the targets that are left, are all
abbrev pub invariant-loop-target : goal.invariant-loop-target
invariant-loop-target l =
    l.places.items ++ flat_map places_in (map target_of (drop l.target-index l.targets))
    ≡ l.fn.places.items ++ flat_map places_in (map target_of l.targets)
