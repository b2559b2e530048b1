-- What the tests of one place keep of its value (typing specification, "Type narrowing"; the library reference, "Truth
-- Value Testing" and `isinstance`; Python reference 3.13, "Comparisons").
use Rattle.std.specs.Prelude.{◌≡◌, Bool, true, false, not, IsTrue, List}
use Rattle.pyc_class_ids.specs.Class.{Id}
use Rattle.pyc_class_ids.specs.Mro.{MroTable}
use Rattle.pyc_narrowing.specs.SplitStates.{SplitStates, truth_states, none_states, instance_states}
use Rattle.pyc_narrowing_laws.specs.StateLaws.{Values, Meets}
use Rattle.pyc_narrowing_laws.specs.TypeLaws.{is_accepted, IsInLine, is_of_seen, is_seen_by_yes, is_seen_by_no}
use Rattle.pyc_narrowing_laws.specs.Values.{Value, is_none_value, has_known_order, is_of}
use Rattle.pyc_places.specs.Places.{Place}
use Rattle.pyc_places.specs.States.{State}
use Rattle.pyc_type_forms.specs.Types.{Ty}
use Rattle.pyc_types.specs.MroLaws.{AreOrderly}

-- the state after a test that says yes, or no
abbrev pub state_where : Bool → SplitStates → State
state_where true found = found.if_true
state_where false found = found.if_false

-- values meet the state after a test that says yes, or no
abbrev pub MeetsWhere : MroTable → Values → Bool → SplitStates → Type 0
MeetsWhere orders values b found = Meets orders values (state_where b found)

-- values meet a state, and the value of a place is of a type
abbrev pub MeetsWith : MroTable → Values → State → Place → Ty → Type 0
MeetsWith orders values s place ty = Meets orders values s × IsTrue (is_of orders (values place) ty)

-- ---- truth

-- a value comes to its truth: None to no, and others may come to both
abbrev pub IsTruth : Bool → Value → Type 0
IsTruth b v = b ≡ true → IsTrue (not (is_none_value v))

-- values meet the state after a place was taken for its truth
abbrev pub TruthKeeps : Type 0
TruthKeeps =
    (orders : MroTable) (values : Values) (b : Bool) (s : State) (place : Place) (ty : Ty)
    → MeetsWith orders values s place ty → IsTruth b (values place)
    → MeetsWhere orders values b (truth_states s place ty)

-- ---- None

-- values meet the state after a place was compared with None: it comes to yes just where the value is None
abbrev pub ComparisonKeeps : Type 0
ComparisonKeeps =
    (orders : MroTable) (values : Values) (s : State) (place : Place) (ty : Ty) → MeetsWith orders values s place ty
    → MeetsWhere orders values (is_none_value (values place)) (none_states s place ty)

-- ---- `isinstance`

-- a test by classes comes to yes of a value that is an instance of one of them, and to no of others, where its rule
-- sees the value
abbrev pub IsTest : MroTable → Bool → Value → Ty → List Id → Type 0
IsTest orders true v ty classes =
    IsTrue (is_accepted orders classes v) × IsTrue (is_of_seen orders (is_seen_by_yes orders classes) v ty)
IsTest orders false v ty classes =
    IsTrue (not (is_accepted orders classes v)) × IsTrue (is_of_seen orders (is_seen_by_no orders classes) v ty)

-- what the laws of `isinstance` ask of the orders and of a value
abbrev pub IsReported : MroTable → Value → Type 0
IsReported orders v = AreOrderly orders × IsInLine orders v × IsTrue (has_known_order orders v)

-- values meet the state after `isinstance`
abbrev pub InstanceTestKeeps : Type 0
InstanceTestKeeps =
    (orders : MroTable) (values : Values) (b : Bool) (s : State) (place : Place) (ty : Ty) (classes : List Id)
    → IsReported orders (values place) → Meets orders values s → IsTest orders b (values place) ty classes
    → MeetsWhere orders values b (instance_states orders s place ty classes)
