use Rattle.std.proofs.Common.{◌≡◌, map, drop}
use Rattle.pyc_places.specs.States.{type_of}
use Rattle.pyc_places.specs.NarrowingView.{narrowing_of}
use Rattle.pyc_places.proofs.narrowings.type_of.Given as goal

-- the narrowings that are left decide
abbrev pub invariant-loop-narrowing : goal.invariant-loop-narrowing
invariant-loop-narrowing l =
    type_of (map (λ n. narrowing_of n.value) (drop l.narrowing-index l.narrowings)) l.place
    ≡ type_of (map (λ n. narrowing_of n.value) l.narrowings) l.place
