-- What is known of places at a point of a body (typing specification, "Type narrowing"; Python reference 3.13,
-- "Boolean operations" and "The if statement"): that the point is never reached, or the types of some places.
use Rattle.std.specs.Prelude.{Bool, true, false, not, List, [], ◌∷◌, ◌++◌, Option, None, Some, option_map, find, filter}
use Rattle.std.specs.List.{flat_map, list_any}
use Rattle.pyc_ast.specs.Exprs.{Expr}
use Rattle.pyc_places.specs.Places.{Place, place_of, same_place, is_place, is_at_or_below}
use Rattle.pyc_type_forms.specs.Types.{Ty}
use Rattle.pyc_type_forms.specs.Unions.{union_of}

-- a place and the type to which it is narrowed
pub record Narrowing : Type 0 where
  pub place : Place
  pub ty : Ty

pub data State : Type 0 where
  -- no run comes here
  unreachable : State
  -- these places are narrowed, each once
  reachable : List Narrowing → State

-- the state in which no place is narrowed
abbrev pub nothing_narrowed : State
nothing_narrowed = reachable []

-- whether a run may come here
abbrev pub is_reachable : State → Bool
is_reachable unreachable = false
is_reachable (reachable narrowings) = true

-- ---- the type of a place

-- the type of the first of some narrowings of a place
abbrev pub type_of : List Narrowing → Place → Option Ty
type_of narrowings place = option_map (λ n. n.ty) (find (λ n. same_place n.place place) narrowings)

-- the type to which a place is narrowed, if it is
abbrev pub narrowed_type : State → Place → Option Ty
narrowed_type unreachable place = None
narrowed_type (reachable narrowings) place = type_of narrowings place

-- the type of the first of some narrowings of some place; without a place there is none
abbrev pub type_of_place : List Narrowing → Option Place → Option Ty
type_of_place narrowings place = option_map (λ n. n.ty) (find (λ n. is_place n.place place) narrowings)

-- the type to which the place that an expression is is narrowed
abbrev pub narrowed_at : State → Expr → Option Ty
narrowed_at unreachable x = None
narrowed_at (reachable narrowings) x = type_of_place narrowings (place_of x)

-- ---- other states

-- some narrowings without those of a place
abbrev pub without_place : Place → List Narrowing → List Narrowing
without_place place narrowings = filter (λ n. not (same_place n.place place)) narrowings

-- a state in which a place has this type
abbrev pub with_place : Place → Ty → State → State
with_place place ty unreachable = unreachable
with_place place ty (reachable narrowings) =
    reachable (without_place place narrowings ++ (record { place = place; ty = ty } ∷ []))

-- a state without what is known of a place and of all below it, as it is after an assignment to the place
abbrev pub drop_place : Place → State → State
drop_place place unreachable = unreachable
drop_place place (reachable narrowings) = reachable (filter (λ n. not (is_at_or_below place n.place)) narrowings)

-- whether a place is one of some places, or below one
abbrev pub is_among : List Place → Place → Bool
is_among places place = list_any (λ upper. is_at_or_below upper place) places

-- a state without what is known of places and of all below them
abbrev pub drop_places : List Place → State → State
drop_places places unreachable = unreachable
drop_places places (reachable narrowings) = reachable (filter (λ n. not (is_among places n.place)) narrowings)

-- ---- where two ways meet

-- a place that has this type on the one way, and perhaps one on the other
abbrev pub on_both : Narrowing → Option Ty → List Narrowing
on_both n (Some other) = record { place = n.place; ty = union_of (n.ty ∷ other ∷ []) } ∷ []
on_both n None = []

-- what is known where one of two states holds: of a place that both narrow the union of its types, and nothing of one
-- that only one of them narrows
abbrev pub joined_states : State → State → State
joined_states unreachable other = other
joined_states state unreachable = state
joined_states (reachable narrowings) (reachable more) =
    reachable (flat_map (λ n. on_both n (type_of more n.place)) narrowings)
