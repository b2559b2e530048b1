-- What a condition may come to, by the values of the places of which it speaks (Python reference 3.13, "Boolean
-- operations" and "Comparisons"; the library reference, "Truth Value Testing" and `isinstance`). A condition that
-- speaks of no place may come to yes and to no.
use Rattle.std.specs.Prelude.{ℕ, zero, suc, ◌≡◌, ◌⊎◌, Bool, true, false, not, IsTrue, if◌then◌else◌, List, Option}
use Rattle.std.specs.Prelude.{None, Some}
use Rattle.pyc_ast.specs.declared.constant.Constant.{Constant}
use Rattle.pyc_ast.specs.declared.constant.Constant.TheVariants as constant
use Rattle.pyc_ast.specs.declared.expr.ArgumentKind.TheVariants as given
use Rattle.pyc_ast.specs.declared.operator.BooleanOperator.{BooleanOperator}
use Rattle.pyc_ast.specs.declared.operator.BooleanOperator.TheVariants as joins
use Rattle.pyc_ast.specs.declared.operator.ComparisonOperator.{ComparisonOperator}
use Rattle.pyc_ast.specs.declared.operator.UnaryOperator.{UnaryOperator}
use Rattle.pyc_ast.specs.declared.operator.UnaryOperator.TheVariants as changes
use Rattle.pyc_ast.specs.declared.position.Position.{Position}
use Rattle.pyc_ast.specs.Exprs.{Expr, expr, Form, call, unary, boolean, compare, argument, Arguments, no_argument}
use Rattle.pyc_ast.specs.Exprs.{another_argument, comparison, Comparisons, no_comparison, another_comparison}
use Rattle.pyc_ast.specs.Exprs as form
use Rattle.pyc_class_ids.specs.Class.{Id}
use Rattle.pyc_names.specs.declared.fixed.FixedName.TheVariants as fixed
use Rattle.pyc_narrowing.specs.SplitStates.{SplitStates}
use Rattle.pyc_narrowing.specs.Splitting.{InferOperand, look_quietly, classes_at, is_none_literal, sense_of, split}
use Rattle.pyc_narrowing_laws.specs.StateLaws.{Values, Meets}
use Rattle.pyc_narrowing_laws.specs.TestLaws.{IsTest, IsTruth}
use Rattle.pyc_narrowing_laws.specs.Values.{Value, is_none_value, is_of}
use Rattle.pyc_obligations.specs.Values.{SpecialForm, fixed_special_form, isinstance_special_form}
use Rattle.pyc_obligations.specs.Values as found
use Rattle.pyc_places.specs.Places.{Place, place_of}
use Rattle.pyc_places.specs.States.{State}
use Rattle.pyc_reading.specs.Answers.{Answer}
use Rattle.pyc_reading.specs.Keys.{Key}
use Rattle.pyc_reading.specs.Owing.{orders_by}
use Rattle.pyc_reading.specs.Readings.{result_of}

-- ---- literals

-- a digit comes to yes unless it is 0
abbrev pub DigitComesTo : Bool → Option ℕ → Type 0
DigitComesTo b (Some zero) = b ≡ false
DigitComesTo b (Some (suc n)) = b ≡ true
DigitComesTo b None = Unit

-- `True` comes to yes, `False` and `None` to no; other literals than these and digits may come to both
abbrev pub LiteralComesTo : Bool → Constant → Type 0
LiteralComesTo b constant.True = b ≡ true
LiteralComesTo b constant.False = b ≡ false
LiteralComesTo b constant.None = b ≡ false
LiteralComesTo b (constant.Integer digit) = DigitComesTo b digit
LiteralComesTo b _ = Unit

-- ---- places

-- a place comes to the truth of its value; `TYPE_CHECKING` is taken to be true
abbrev pub TruthComesTo : Bool → Value → SpecialForm → Type 0
TruthComesTo b v (fixed_special_form fixed.TypeChecking) = b ≡ true
TruthComesTo b v _ = IsTruth b v

-- a comparison of a place with None, to be it or not to be it, goes by whether its value is None
abbrev pub ComparisonComesTo : Values → Bool → Expr → Comparisons → Type 0
ComparisonComesTo values b x rest =
    (place : Place) (operator : ComparisonOperator) (right : Expr) (sense : Bool) → place_of x ≡ Some place
    → rest ≡ another_comparison (comparison operator right) no_comparison → IsTrue (is_none_literal right)
    → sense_of operator ≡ Some sense
    → (if sense then b else not b) ≡ is_none_value (values place)

-- two arguments that are given at their places
abbrev pub two_given : (at other : Position) → (first second : Expr) → Arguments
two_given at other first second =
    another_argument (argument at given.Positional first)
    (another_argument (argument other given.Positional second) no_argument)

-- ---- conditions of conditions

-- `not` comes to the opposite of its operand; other operators may come to both
abbrev pub UnaryComesTo : Bool → UnaryOperator → (Bool → Type 0) → Type 0
UnaryComesTo b changes.Not operand = operand (not b)
UnaryComesTo b _ operand = Unit

-- `and` comes to yes where both sides do, and `or` where one of them does; the right side counts where the left one
-- does not decide
abbrev pub BooleanComesTo : Bool → BooleanOperator → (left right : Bool → Type 0) → Type 0
BooleanComesTo true joins.And left right = left true × right true
BooleanComesTo false joins.And left right = left false ⊎ (left true × right false)
BooleanComesTo true joins.Or left right = left true ⊎ (left false × right true)
BooleanComesTo false joins.Or left right = left false × right false

-- the state in which the right side counts
abbrev pub right_state : BooleanOperator → SplitStates → State
right_state joins.And first = first.if_true
right_state joins.Or first = first.if_false

-- ---- the whole

module _ (answers : Key → Answer) (look : InferOperand) where
  -- what an expression is, as it is looked up in a state
  abbrev pub found_at : State → Expr → found.Value
  found_at s x = result_of answers (look_quietly look s x)

  -- the states after a condition
  abbrev pub states_after : State → Expr → SplitStates
  states_after s x = result_of answers (split look s x)

  module _ (values : Values) where
    -- what is looked up of a place, in each state that the values meet, is a type of its value
    abbrev pub LooksRightly : Type 0
    LooksRightly =
        (s : State) (x : Expr) (place : Place) → Meets (orders_by answers) values s → place_of x ≡ Some place
        → IsTrue (is_of (orders_by answers) (values place) (found_at s x).ty)

    -- a place that is taken for its truth
    abbrev pub PlaceComesTo : Bool → State → Expr → Type 0
    PlaceComesTo b s x = (place : Place) → place_of x ≡ Some place → TruthComesTo b (values place)
        (found_at s x).special_form

    -- a call of `isinstance` with a place and class objects: those that are looked up are the classes by which it tests
    abbrev pub CallComesTo : Bool → State → Expr → Arguments → Type 0
    CallComesTo b s callee given =
        (at other : Position) (x tested : Expr) (place : Place) (classes : List Id)
        → given ≡ two_given at other x tested → place_of x ≡ Some place → (found_at s callee).special_form ≡
        isinstance_special_form
        → result_of answers (classes_at look s tested) ≡ Some classes
        → IsTest (orders_by answers) b (values place) (found_at s x).ty classes

    abbrev mutual
      -- a condition in a state may come to yes, or to no
      pub ComesTo : Bool → State → Expr → Type 0
      ComesTo b s (expr at inside found) = FormComesTo b s (expr at inside found) found

      -- a condition of a form
      pub FormComesTo : Bool → State → Expr → Form → Type 0
      FormComesTo b s whole (form.constant found) = LiteralComesTo b found
      FormComesTo b s whole (unary operator x) = UnaryComesTo b operator (λ c. ComesTo c s x)
      FormComesTo b s whole (boolean operator x y) =
          BooleanComesTo b operator (λ c. ComesTo c s x)
          (λ c. ComesTo c (right_state operator (states_after s x)) y)
      FormComesTo b s whole (call callee given) = CallComesTo b s callee given
      FormComesTo b s whole (compare x rest) = ComparisonComesTo values b x rest
      FormComesTo b s whole _ = PlaceComesTo b s whole
