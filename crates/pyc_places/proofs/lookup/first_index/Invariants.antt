use Rattle.std.proofs.Common.{◌≡◌, map, drop}
use Rattle.std.specs.List.{position_from}
use Rattle.pyc_places.specs.Lookup.{first_place}
use Rattle.pyc_places.specs.NarrowingView.{narrowing_of}
use Rattle.pyc_places.specs.Places.{same_place}
use Rattle.pyc_places.specs.States.{Narrowing}
use Rattle.pyc_places.proofs.lookup.first_index.Given as goal

-- the narrowings that are left decide
abbrev pub invariant-loop-index : goal.invariant-loop-index
invariant-loop-index l =
    position_from (λ (n : Narrowing). same_place n.place l.place) l.index (map (λ n. narrowing_of n.value) (drop l.index l.narrowings))
    ≡ first_place (map (λ n. narrowing_of n.value) l.narrowings) l.place
