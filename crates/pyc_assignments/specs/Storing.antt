-- What is required of a target, and what is known of it after the assignment (Python reference 3.13, "Assignment
-- statements" and "Naming and binding"; typing specification, "Type system concepts" and "Type narrowing").
use Rattle.std.specs.Prelude.{ℕ, Bool, true, false, not, ◌&&◌, if◌then◌else◌, List, [], ◌∷◌, Option}
use Rattle.std.specs.Prelude.{None, Some}
use Rattle.pyc_assignments.specs.Reads.{AssignmentOutcome, target_type_outcome, new_local}
use Rattle.pyc_ast.specs.declared.position.Position.{Position}
use Rattle.pyc_ast.specs.Targets.{Target}
use Rattle.pyc_locals.specs.Locals.{declared}
use Rattle.pyc_locals.specs.FlowStates.{FlowState, in_state, with_declared}
use Rattle.pyc_messages.specs.Assignments as message
use Rattle.pyc_obligations.specs.Judging.{judge_assignable}
use Rattle.pyc_places.specs.Places.{Place}
use Rattle.pyc_places.specs.States.{State, with_place, drop_place}
use Rattle.pyc_places.specs.TargetPlaces.{target_place}
use Rattle.pyc_reading.specs.Traces.{Step, required}
use Rattle.pyc_reading.specs.Owing.{Obligation}
use Rattle.pyc_reading.specs.Readings.{Done, ◌>>=◌}
use Rattle.pyc_report.specs.declared.message.ObligationKind.TheVariants as obligation_kind
use Rattle.pyc_targets.specs.TargetTypes.{TargetType}
use Rattle.pyc_type_forms.specs.Text.{text_of}
use Rattle.pyc_type_forms.specs.Types.{Ty, any, none, union}

-- ---- what is reported

-- the text on a value of another type than its target takes, by whether that is an item of a subscript
abbrev pub assignment_text : Bool → (got want : List ℕ) → List ℕ
assignment_text true got want = message.item_assignment_text got want
assignment_text false got want = message.variable_assignment_text got want

-- the text on a value of a type, by its type and the type that its target takes
unfoldable pub required_assignment_text : Bool → (got want : Ty) → List ℕ
required_assignment_text is_item got want = assignment_text is_item (text_of got) (text_of want)

-- ---- obligations

-- a value has to be of the type that its target takes, which is reported where the value begins
abbrev pub required_assignment : Position → Bool → (got want : Ty) → Obligation
required_assignment at is_item got want =
    record {
      obligation_kind = obligation_kind.Assignment;
      at = at;
      got = got;
      want = want;
      details = [];
      text = required_assignment_text is_item got want;
    }

unfoldable pub assignment_required : Position → Bool → (got want : Ty) → Step (Unit {0})
assignment_required at is_item got want = required (required_assignment at is_item got want)

-- a value has to be of the type that its target takes, if it takes one
abbrev pub want_required : Position → Bool → Ty → Option Ty → Step (Unit {0})
want_required at is_item got (Some want) = assignment_required at is_item got want
want_required at is_item got None = Done tt

-- ---- what is known afterwards

abbrev pub is_union : Ty → Bool
is_union (union items) = true
is_union _ = false

abbrev pub is_any : Ty → Bool
is_any any = true
is_any _ = false

abbrev pub narrow_if : Bool → Place → Ty → State → State
narrow_if goes place ty s = if goes then with_place place ty s else s

-- a place of a type that takes a value: it is narrowed to the value's type where that is assignable
unfoldable pub narrow_if_assignable : Place → (want got : Ty) → State → Step State
narrow_if_assignable place want got s = do
  goes ← judge_assignable got want
  Done (narrow_if goes place got s)

-- only a place that is declared as a union is narrowed, and not to Any
abbrev pub narrow_if_union : Place → (want got : Ty) → State → Step State
narrow_if_union place want got s = if is_union want && not (is_any got) then narrow_if_assignable place want got s
    else Done s

abbrev pub narrow_by_want : Place → Option Ty → Ty → State → Step State
narrow_by_want place (Some want) got s = narrow_if_union place want got s
narrow_by_want place None got s = Done s

-- an assignment to a place: what was known of it, and of all below it, is dropped
abbrev pub assign_place : Option Place → Option Ty → Ty → State → Step State
assign_place (Some place) want got s = narrow_by_want place want got (drop_place place s)
assign_place None want got s = Done s

-- what is known after a target that takes a type was assigned a value of a type
abbrev pub renarrow : Target → Option Ty → Ty → State → Step State
renarrow to want got s = assign_place (target_place to) want got s

-- a value of a type that begins at a position is assigned to a target that takes what it is declared as
unfoldable pub target_type_stored : Position → Target → TargetType → Ty → FlowState → Step FlowState
target_type_stored at to target_type got p = do
  u ← want_required at target_type.is_item got target_type.want
  s ← renarrow to target_type.want got p.state
  Done (in_state p s)

-- ---- new locals

-- the type that a value gives a local that it declares: None says nothing of what follows
abbrev pub declared_local_type : Ty → Ty
declared_local_type none = any
declared_local_type ty = ty

-- a place of a type that holds a value of that type
abbrev pub narrow_to_itself : Place → Ty → State → State
narrow_to_itself place ty s = narrow_if (is_union ty) place ty s

-- a point at which a value of a type declares a local
abbrev pub store_local : List ℕ → Ty → FlowState → FlowState
store_local x got p =
    with_declared x (declared (declared_local_type got))
    (in_state p (narrow_to_itself (x ∷ []) (declared_local_type got) (drop_place (x ∷ []) p.state)))

-- ---- the whole

-- a value of a type that begins at a position is assigned to a target that meets this
abbrev pub store_in_target : Position → Target → AssignmentOutcome → Ty → FlowState → Step FlowState
store_in_target at to (target_type_outcome target_type) got p = target_type_stored at to target_type got p
store_in_target at to (new_local x) got p = Done (store_local x got p)
