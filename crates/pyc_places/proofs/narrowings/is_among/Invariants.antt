use Rattle.std.proofs.Common.{◌≡◌, drop}
use Rattle.pyc_places.specs.States.{is_among}
use Rattle.pyc_places.proofs.narrowings.is_among.Given as goal

-- the places that are left decide
abbrev pub invariant-loop-upper : goal.invariant-loop-upper
invariant-loop-upper l = is_among (drop l.upper-index l.places) l.place ≡ is_among l.places l.place
