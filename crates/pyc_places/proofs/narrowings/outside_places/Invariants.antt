use Rattle.std.proofs.Common.{◌≡◌, ◌++◌, map, drop, filter, not}
use Rattle.pyc_places.specs.NarrowingView.{narrowing_of}
use Rattle.pyc_places.specs.States.{is_among}
use Rattle.pyc_places.proofs.narrowings.outside_places.Given as goal

-- what was kept, with what is kept of the narrowings that are left, is the whole
abbrev pub invariant-loop-narrowing : goal.invariant-loop-narrowing
invariant-loop-narrowing l =
    map (λ n. narrowing_of n.value) l.kept.items
    ++ filter (λ n. not (is_among l.places n.place)) (map (λ n. narrowing_of n.value) (drop l.narrowing-index l.narrowings))
    ≡ filter (λ n. not (is_among l.places n.place)) (map (λ n. narrowing_of n.value) l.narrowings)
