use Rattle.std.proofs.Common.{◌≡◌, map, drop}
use Rattle.pyc_bindings.specs.ScopeView.{part_of}
use Rattle.pyc_overrides.specs.Places.{place_in_parts_at}
use Rattle.pyc_overrides.proofs.places.place_in_parts_at.Given as goal

-- the place that is sought is among the parts that are left
abbrev pub invariant-loop-part : goal.invariant-loop-part
invariant-loop-part l =
    place_in_parts_at (map part_of (drop l.part-index l.parts)) l.at l.name ≡ place_in_parts_at (map part_of l.parts) l.at l.name
