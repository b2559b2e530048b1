-- Places that are narrowed once.
use Rattle.std.specs.Prelude.{Bool, true, not, ◌&&◌, List, [], ◌∷◌}
use Rattle.std.specs.List.{list_any}
use Rattle.pyc_places.specs.Places.{Place, same_place}
use Rattle.pyc_places.specs.States.{Narrowing}

-- whether one of some narrowings is of a place
abbrev pub is_narrowed : List Narrowing → Place → Bool
is_narrowed narrowings place = list_any (λ n. same_place n.place place) narrowings

-- whether each place is narrowed once
abbrev pub are_once : List Narrowing → Bool
are_once [] = true
are_once (n ∷ narrowings) = not (is_narrowed narrowings n.place) && are_once narrowings
