use Rattle.std.proofs.Common.{◌≡◌, ◌++◌, map, drop}
use Rattle.pyc_places.specs.States.{without_place}
use Rattle.pyc_places.specs.NarrowingView.{narrowing_of}
use Rattle.pyc_places.proofs.narrowings.without_place.Given as goal

-- what was kept, with what is kept of those that are left, is the whole
abbrev pub invariant-loop-narrowing : goal.invariant-loop-narrowing
invariant-loop-narrowing l =
    map (λ n. narrowing_of n.value) l.kept.items ++ without_place l.place (map (λ n. narrowing_of n.value) (drop l.narrowing-index l.narrowings))
    ≡ without_place l.place (map (λ n. narrowing_of n.value) l.narrowings)
