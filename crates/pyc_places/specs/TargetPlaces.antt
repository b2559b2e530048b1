-- The place to which an assignment assigns (Python reference 3.13, "Assignment statements").
use Rattle.std.specs.Prelude.{◌++◌, ◌∷◌, [], Option, None, Some, option_map}
use Rattle.pyc_ast.specs.Targets.{Target, target, name, attribute, subscript, unpacking}
use Rattle.pyc_places.specs.Places.{Place, place_of}

-- the place that a target is: a name, or an attribute of a place; other targets are none
abbrev pub target_place : Target → Option Place
target_place (target at inside (name x)) = Some (x ∷ [])
target_place (target at inside (attribute value n)) = option_map (λ place. place ++ (n ∷ [])) (place_of value)
target_place (target at inside (subscript value i)) = None
target_place (target at inside (unpacking elements)) = None
