use Rattle.std.proofs.Common.{◌≡◌, ◌++◌, map, drop, filter, not}
use Rattle.pyc_places.specs.Places.{is_at_or_below}
use Rattle.pyc_places.specs.NarrowingView.{narrowing_of}
use Rattle.pyc_places.proofs.narrowings.outside_place.Given as goal

-- what was kept, with what is kept of those that are left, is the whole
abbrev pub invariant-loop-narrowing : goal.invariant-loop-narrowing
invariant-loop-narrowing l =
    map (λ n. narrowing_of n.value) l.kept.items
    ++ filter (λ n. not (is_at_or_below l.place n.place)) (map (λ n. narrowing_of n.value) (drop l.narrowing-index l.narrowings))
    ≡ filter (λ n. not (is_at_or_below l.place n.place)) (map (λ n. narrowing_of n.value) l.narrowings)
