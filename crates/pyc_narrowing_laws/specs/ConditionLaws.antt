-- What the states after a condition keep of the values of places (typing specification, "Type narrowing").
use Rattle.std.specs.Prelude.{◌≡◌, Bool, IsTrue, Option, Some}
use Rattle.std.specs.Option.{unwrap_or}
use Rattle.pyc_ast.specs.Exprs.{Expr}
use Rattle.pyc_narrowing.specs.Splitting.{InferOperand}
use Rattle.pyc_narrowing_laws.specs.Conditions.{ComesTo, LooksRightly, states_after}
use Rattle.pyc_narrowing_laws.specs.StateLaws.{Values, Meets}
use Rattle.pyc_narrowing_laws.specs.TestLaws.{IsReported, MeetsWhere}
use Rattle.pyc_narrowing_laws.specs.Values.{is_of}
use Rattle.pyc_obligations.specs.Values.{plain_value}
use Rattle.pyc_places.specs.Places.{Place, place_of}
use Rattle.pyc_places.specs.States.{State, narrowed_at}
use Rattle.pyc_reading.specs.Answers.{Answer}
use Rattle.pyc_reading.specs.Keys.{Key}
use Rattle.pyc_reading.specs.Owing.{orders_by}
use Rattle.pyc_reading.specs.Readings.{Done}
use Rattle.pyc_type_forms.specs.Types.{Ty}

-- values that meet a state meet the state after a condition that may come to yes, or to no, of them
abbrev pub SplitKeeps : Type 0
SplitKeeps =
    (answers : Key → Answer) (look : InferOperand) (values : Values)
    → ((place : Place) → IsReported (orders_by answers) (values place)) → LooksRightly answers look values
    → (b : Bool) (s : State) (x : Expr) → Meets (orders_by answers) values s → ComesTo answers look values b s x
    → MeetsWhere (orders_by answers) values b (states_after answers look s x)

-- to look up the type to which a place is narrowed, else the type with which it is declared
abbrev pub narrowed_or : (Expr → Ty) → InferOperand
narrowed_or declared s x = Done (plain_value (unwrap_or (narrowed_at s x) (declared x)))

-- where each place has a value of the type with which it is declared, this looks up a type of its value
abbrev pub NarrowedTypesAreRight : Type 0
NarrowedTypesAreRight =
    (answers : Key → Answer) (declared : Expr → Ty) (values : Values)
    → ((x : Expr) (place : Place) → place_of x ≡ Some place
    → IsTrue (is_of (orders_by answers) (values place) (declared x)))
    → LooksRightly answers (narrowed_or declared) values
