use Rattle.std.proofs.Common.{◌≡◌, map, drop}
use Rattle.pyc_ast.specs.TargetView.{target_of}
use Rattle.pyc_overrides.specs.Places.{place_in_targets}
use Rattle.pyc_overrides.proofs.places.place_in_targets.Given as goal

-- the place that is sought is among the targets that are left
abbrev pub invariant-loop-target : goal.invariant-loop-target
invariant-loop-target l =
    place_in_targets (map target_of (drop l.target-index l.targets)) l.name ≡ place_in_targets (map target_of l.targets) l.name
