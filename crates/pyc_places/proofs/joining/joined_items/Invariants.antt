use Rattle.std.proofs.Common.{◌≡◌, ◌++◌, map, drop}
use Rattle.std.specs.List.{flat_map}
use Rattle.pyc_places.specs.NarrowingView.{narrowing_of}
use Rattle.pyc_places.specs.States.{on_both, type_of}
use Rattle.pyc_places.specs.StateView.{narrowings_in}
use Rattle.pyc_places.proofs.joining.joined_items.Given as goal

-- what was joined, with what is of those that are left, is the whole
abbrev pub invariant-loop-narrowing : goal.invariant-loop-narrowing
invariant-loop-narrowing l =
    map (λ n. narrowing_of n.value) l.joined.items
    ++ flat_map (λ n. on_both n (type_of (narrowings_in l.more) n.place)) (map (λ n. narrowing_of n.value) (drop l.narrowing-index l.narrowings))
    ≡ flat_map (λ n. on_both n (type_of (narrowings_in l.more) n.place)) (map (λ n. narrowing_of n.value) l.narrowings)
