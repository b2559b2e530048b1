-- What is known of places after a condition that is true, and after one that is not (typing specification, "Type
-- narrowing"; Python reference 3.13, "Boolean operations" and "Comparisons"; the library reference, "Truth Value
-- Testing", and `isinstance`).
use Rattle.std.specs.Prelude.{ℕ, Bool, true, false, ◌==◌, if◌then◌else◌, List, Option, None, Some}
use Rattle.std.specs.List.{list_any}
use Rattle.pyc_ast.specs.declared.constant.Constant.{Constant}
use Rattle.pyc_ast.specs.declared.constant.Constant.TheVariants as constant
use Rattle.pyc_class_ids.specs.Class.{Id, same_class, object_id}
use Rattle.pyc_class_ids.specs.Mro.{MroTable}
use Rattle.pyc_places.specs.Places.{Place}
use Rattle.pyc_places.specs.States.{State, unreachable, with_place, joined_states}
use Rattle.pyc_type_forms.specs.Equality.{same_type}
use Rattle.pyc_type_forms.specs.Narrowing.{narrow_to, narrow_away, without_none}
use Rattle.pyc_type_forms.specs.Types.{Ty, any, none, instance}
use Rattle.pyc_type_forms.specs.Unions.{items_of}

-- the states after a condition that is true, and after one that is not
pub record SplitStates : Type 0 where
  pub if_true : State
  pub if_false : State

-- ---- conditions that narrow nothing

-- a condition that says nothing
abbrev pub unchanged : State → SplitStates
unchanged s = record { if_true = s; if_false = s }

-- a condition that always holds, and one that never does
abbrev pub always : State → SplitStates
always s = record { if_true = s; if_false = unreachable }

abbrev pub never : State → SplitStates
never s = record { if_true = unreachable; if_false = s }

-- a digit holds unless it is 0; other digits than 1 are taken to say nothing
abbrev pub digit_states : State → Option ℕ → SplitStates
digit_states s (Some n) = if n == 1 then always s else if n == 0 then never s else unchanged s
digit_states s None = unchanged s

-- a literal: what `True`, `False`, `None`, `1` and `0` are is known, and other literals are taken to say nothing
abbrev pub literal_states : State → Constant → SplitStates
literal_states s constant.True = always s
literal_states s constant.False = never s
literal_states s constant.None = never s
literal_states s (constant.Integer digit) = digit_states s digit
literal_states s _ = unchanged s

-- ---- one place

-- a state in which what is left of the type of a place is this: it is unreachable where nothing is left, and unchanged
-- where all is left
abbrev pub narrow_state : State → Place → Ty → Option Ty → State
narrow_state s place ty (Some left) = if same_type left ty then s else with_place place left s
narrow_state s place ty None = unreachable

-- a place of a type, taken for its truth: None is false
abbrev pub truth_states : State → Place → Ty → SplitStates
truth_states s place ty = record { if_true = narrow_state s place ty (without_none ty); if_false = s }

-- whether None may be a value of an item of a type: it is an instance of `object`
abbrev pub may_be_none : Ty → Bool
may_be_none none = true
may_be_none any = true
may_be_none (instance c) = same_class c object_id
may_be_none _ = false

-- what is left of a type where a value of it is None
abbrev pub none_of : Ty → Option Ty
none_of ty = if list_any may_be_none (items_of ty) then Some none else None

-- a place of a type, compared with None: to be it
abbrev pub none_states : State → Place → Ty → SplitStates
none_states s place ty =
    record {
      if_true = narrow_state s place ty (none_of ty);
      if_false = narrow_state s place ty (without_none ty);
    }

-- a place of a type, tested by `isinstance` with these classes, by their orders
abbrev pub instance_states : MroTable → State → Place → Ty → List Id → SplitStates
instance_states orders s place ty classes =
    record {
      if_true = narrow_state s place ty (narrow_to orders ty classes);
      if_false = narrow_state s place ty (narrow_away orders ty classes);
    }

-- ---- conditions of conditions

-- the negation of a condition
abbrev pub swapped : SplitStates → SplitStates
swapped found = record { if_true = found.if_false; if_false = found.if_true }

-- a comparison with a value: to be it, or else not to be it
abbrev pub in_sense : Bool → SplitStates → SplitStates
in_sense true found = found
in_sense false found = swapped found

-- `and`: where the whole holds both sides do, and where it does not one of them does not
abbrev pub and_states : (left right : SplitStates) → SplitStates
and_states left right =
    record { if_true = right.if_true; if_false = joined_states left.if_false right.if_false }

-- `or`: where the whole does not hold neither side does, and where it holds one of them does
abbrev pub or_states : (left right : SplitStates) → SplitStates
or_states left right = record { if_true = joined_states left.if_true right.if_true; if_false = right.if_false }
