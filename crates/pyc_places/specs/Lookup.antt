-- Where places stand among narrowings.
use Rattle.std.specs.Prelude.{ℕ, zero, suc, Bool, false, List, [], ◌∷◌, Option}
use Rattle.std.specs.List.{position_from}
use Rattle.pyc_places.specs.Places.{Place, same_place}
use Rattle.pyc_places.specs.States.{Narrowing}

-- the index of the first of some narrowings of a place
abbrev pub first_place : List Narrowing → Place → Option ℕ
first_place narrowings place = position_from (λ n. same_place n.place place) 0 narrowings

-- whether the narrowing at an index, if there is one, is of a place
abbrev pub is_at : List Narrowing → ℕ → Place → Bool
is_at [] index place = false
is_at (n ∷ narrowings) zero place = same_place n.place place
is_at (n ∷ narrowings) (suc index) place = is_at narrowings index place
