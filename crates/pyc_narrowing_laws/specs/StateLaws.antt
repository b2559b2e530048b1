-- What the states of places keep of the values of the places (typing specification, "Type narrowing"; Python reference
-- 3.13, "Boolean operations", "The if statement" and "Assignment statements").
use Rattle.std.specs.Prelude.{◌≡◌, ◌⊎◌, false, IsTrue, List, [], ◌∷◌}
use Rattle.pyc_class_ids.specs.Mro.{MroTable}
use Rattle.pyc_narrowing_laws.specs.Values.{Value, is_of}
use Rattle.pyc_places.specs.Places.{Place, is_at_or_below}
use Rattle.pyc_places.specs.States.{Narrowing, State, unreachable, reachable, nothing_narrowed, with_place, drop_place}
use Rattle.pyc_places.specs.States.{joined_states}
use Rattle.pyc_type_forms.specs.Types.{Ty}

-- the value of each place at a point of a run
abbrev pub Values : Type 0
Values = Place → Value

-- the value of each narrowed place is of the type to which the place is narrowed
abbrev pub MeetsEach : MroTable → Values → List Narrowing → Type 0
MeetsEach orders values [] = Unit
MeetsEach orders values (n ∷ narrowings) =
    IsTrue (is_of orders (values n.place) n.ty) × MeetsEach orders values narrowings

-- values meet a state: a run may come there, and the value of each narrowed place is of its type
abbrev pub Meets : MroTable → Values → State → Type 0
Meets orders values unreachable = ⊥
Meets orders values (reachable narrowings) = MeetsEach orders values narrowings

-- all values meet the state in which nothing is narrowed
abbrev pub NothingNarrowedIsMet : Type 0
NothingNarrowedIsMet = (orders : MroTable) (values : Values) → Meets orders values nothing_narrowed

-- values that meet a state meet it with a place of a type, where the place has a value of that type
abbrev pub WithPlaceKeeps : Type 0
WithPlaceKeeps =
    (orders : MroTable) (values : Values) (place : Place) (ty : Ty) (s : State) → Meets orders values s
    → IsTrue (is_of orders (values place) ty) → Meets orders values (with_place place ty s)

-- where two ways meet, values that met the state of one of them meet the joined state
abbrev pub JoinedKeeps : Type 0
JoinedKeeps =
    (orders : MroTable) (values : Values) (s t : State) → Meets orders values s ⊎ Meets orders values t
    → Meets orders values (joined_states s t)

-- the values after an assignment to a place are those before it, but for the place and all below it
abbrev pub ChangesAt : Place → (before after : Values) → Type 0
ChangesAt place before after = (other : Place) → is_at_or_below place other ≡ false → after other ≡ before other

-- values that met a state before an assignment to a place meet it after, once the place and all below it are dropped
abbrev pub DroppedKeeps : Type 0
DroppedKeeps =
    (orders : MroTable) (place : Place) (before after : Values) (s : State) → ChangesAt place before after
    → Meets orders before s → Meets orders after (drop_place place s)

-- values that met a state before an assignment meet it after with the place narrowed to a type of its new value
abbrev pub AssignedKeeps : Type 0
AssignedKeeps =
    (orders : MroTable) (place : Place) (before after : Values) (ty : Ty) (s : State) → ChangesAt place before after
    → Meets orders before s → IsTrue (is_of orders (after place) ty)
    → Meets orders after (with_place place ty (drop_place place s))
