-- Places, whose types a condition can narrow (typing specification, "Type narrowing"; Python reference 3.13,
-- "Identifiers (Names)" and "Attribute references"). A place is a name, and attributes after it.
use Rattle.std.specs.Prelude.{ℕ, Bool, false, bytes_eq, List, [], ◌∷◌, ◌++◌, Option, None, Some, option_map}
use Rattle.std.specs.Cmp.Lexicographic.{pointwise}
use Rattle.std.specs.List.{starts_with}
use Rattle.pyc_ast.specs.Exprs.{Expr, expr, name, attribute}

-- a name, and those of the attributes after it
abbrev pub Place : Type 0
Place = List (List ℕ)

-- the place that an expression is: a name, or an attribute of a place; other expressions are none
unfoldable pub place_of : Expr → Option Place
place_of (expr at inside (name x)) = Some (x ∷ [])
place_of (expr at inside (attribute value n)) = option_map (λ place. place ++ (n ∷ [])) (place_of value)
place_of _ = None

-- whether two places are one
abbrev pub same_place : Place → Place → Bool
same_place = pointwise bytes_eq

-- whether an expression that is this place, if it is one, is another
abbrev pub is_place : Place → Option Place → Bool
is_place place (Some other) = same_place place other
is_place place None = false

-- whether the second place is the first or an attribute below it
abbrev pub is_at_or_below : Place → Place → Bool
is_at_or_below upper place = starts_with bytes_eq place upper
