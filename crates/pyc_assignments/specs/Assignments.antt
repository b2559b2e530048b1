-- Assignments (Python reference 3.13, "Assignment statements" and "Annotated assignment statements"; typing
-- specification, "Type annotations"): what is asked and reported, and the point after them.
use Rattle.std.specs.Prelude.{ℕ, suc, Bool, true, false, nat_eq, if◌then◌else◌, List, [], ◌∷◌, ◌+◌, Option, None, Some}
use Rattle.std.specs.List.{slice_get}
use Rattle.pyc_assignments.specs.Reads.{AssignmentOutcome, Reads, free_outcome, want_of, infer_type_at}
use Rattle.pyc_assignments.specs.Singles.{outcome, is_unpacking}
use Rattle.pyc_assignments.specs.Storing.{assignment_required, renarrow, store_in_target}
use Rattle.pyc_assignments.specs.Unpacking.{Shares, has_starred, target_count, shares_of, share_at}
use Rattle.pyc_ast.specs.declared.position.Position.{Position}
use Rattle.pyc_ast.specs.Exprs.{Expr, at_of}
use Rattle.pyc_ast.specs.Statements.{AnnotatedAssignment}
use Rattle.pyc_ast.specs.Targets.{Target, target, TargetForm, name, unpacking, TargetElements, no_target}
use Rattle.pyc_ast.specs.Targets.{another_target, target_element}
use Rattle.pyc_locals.specs.Locals.{declared}
use Rattle.pyc_locals.specs.FlowStates.{FlowState, in_state, with_declared}
use Rattle.pyc_reading.specs.Traces.{Step}
use Rattle.pyc_reading.specs.Readings.{Done, and_then, ◌>>=◌}
use Rattle.pyc_type_forms.specs.Types.{Ty}

-- ---- one target

module _ (read : Reads) (at : Position) where
  -- a target that is no tuple or list of targets
  unfoldable pub assign_single : Target → Ty → FlowState → Step FlowState
  assign_single to ty p = do
    found ← outcome read p to
    store_in_target at to found ty p

  abbrev mutual
    -- the point after a value of a type, which begins at a position, is assigned to a target
    pub assign_target : Target → Ty → FlowState → Step FlowState
    assign_target (target out inside form) ty p = form_assigned (target out inside form) form ty p

    -- the point after a value is assigned to `whole`, by its form: to a tuple or a list of targets it is unpacked
    pub form_assigned : Target → TargetForm → Ty → FlowState → Step FlowState
    form_assigned whole (unpacking elements) ty p = do
      found ← shares_of at (has_starred elements) (target_count elements) ty
      assign_each found 0 elements p
    form_assigned whole form ty p = assign_single whole ty p

    -- targets get their shares, in turn: the first has this number
    pub assign_each : Shares → ℕ → TargetElements → FlowState → Step FlowState
    assign_each found index no_target p = Done p
    assign_each found index (another_target (target_element starred to) rest) p = do
      q ← assign_target to (share_at found index) p
      assign_each found (index + 1) rest q

  -- the point after a value is unpacked to targets
  abbrev pub unpack_value : TargetElements → Ty → FlowState → Step FlowState
  unpack_value elements ty p = do
    found ← shares_of at (has_starred elements) (target_count elements) ty
    assign_each found 0 elements p

  -- a target, by whether what it meets was read before
  abbrev pub assign_one : AssignmentOutcome → Bool → Ty → Target → FlowState → Step FlowState
  assign_one found is_first ty to p = if is_first then store_in_target at to found ty p else assign_target to ty p

-- ---- assignments

-- the number of the first target that is no tuple or list of targets, or how many there are
abbrev pub first_single : List Target → ℕ
first_single [] = 0
first_single (to ∷ rest) = if is_unpacking to then suc (first_single rest) else 0

-- what the first such target meets: it is read before the value
abbrev pub first_outcome : Reads → FlowState → Option Target → Step AssignmentOutcome
first_outcome read p (Some to) = outcome read p to
first_outcome read p None = Done free_outcome

-- a value that begins at a position is assigned to targets, where this is what the one of a number meets
module _ (read : Reads) (at : Position) (found : AssignmentOutcome) (first : ℕ) where
  -- targets in turn: the first of these has this number
  unfoldable pub assign_targets : Ty → ℕ → List Target → FlowState → Step FlowState
  assign_targets ty index [] p = Done p
  assign_targets ty index (to ∷ rest) p = do
    q ← assign_one read at found (nat_eq index first) ty to p
    assign_targets ty (index + 1) rest q

  unfoldable pub assignment_by : List Target → Expr → FlowState → Step FlowState
  assignment_by targets value p = do
    ty ← infer_type_at read p value (want_of found)
    assign_targets ty 0 targets p

-- an assignment to targets from left to right: the value is read with what the first single target takes
unfoldable pub assignment : Reads → List Target → Expr → FlowState → Step FlowState
assignment read targets value p = do
  found ← first_outcome read p (slice_get targets (first_single targets))
  assignment_by read (at_of value) found (first_single targets) targets value p

-- ---- annotated assignments

-- what an assignment to a target other than a name meets, which is read before the value
abbrev pub early_form_outcome : Reads → FlowState → Target → TargetForm → Step AssignmentOutcome
early_form_outcome read p whole (name x) = Done free_outcome
early_form_outcome read p whole form = outcome read p whole

abbrev pub early_outcome : Reads → FlowState → Target → Step AssignmentOutcome
early_outcome read p (target at inside form) = early_form_outcome read p (target at inside form) form

-- a point after the annotation of a name: it declares a local that nothing has declared before
abbrev pub form_annotated : (want : Ty) → TargetForm → FlowState → FlowState
form_annotated want (name x) p = with_declared x (declared want) p
form_annotated want form p = p

abbrev pub declare_target : (want : Ty) → Target → FlowState → FlowState
declare_target want (target at inside form) p = form_annotated want form p

-- what a name takes, by whether the assignment declares it
unfoldable pub ask_want : Reads → FlowState → List ℕ → Step (Option Ty)
ask_want read p x = and_then (read.outcome p x) (λ found. Done (want_of found))

abbrev pub name_want : Reads → Bool → Ty → FlowState → List ℕ → Step (Option Ty)
name_want read true want p x = Done (Some want)
name_want read false want p x = ask_want read p x

-- what a target takes: a name is read after the value
abbrev pub late_form_want : Reads → Bool → Ty → FlowState → AssignmentOutcome → TargetForm → Step (Option Ty)
late_form_want read declares want p early (name x) = name_want read declares want p x
late_form_want read declares want p early form = Done (want_of early)

abbrev pub late_want : Reads → Bool → Ty → FlowState → AssignmentOutcome → Target → Step (Option Ty)
late_want read declares want p early (target at inside form) = late_form_want read declares want p early form

-- the value of an annotation of this type, once it was read: what is known afterwards goes by what the target takes
unfoldable pub store_value : Reads → Bool → Target → (want : Ty) → AssignmentOutcome → Position → (got : Ty) → FlowState
    → Step FlowState
store_value read declares to want early at got p = do
  takes ← late_want read declares want p early to
  u ← assignment_required at false got want
  s ← renarrow to takes got p.state
  Done (in_state p s)

-- a value of which this type is wanted, once the target was read
unfoldable pub assign_value : Reads → Bool → Target → (want : Ty) → Expr → FlowState → AssignmentOutcome → Step
    FlowState
assign_value read declares to want value p early =
    and_then (infer_type_at read p value (Some want))
    (λ got. store_value read declares to want early (at_of value) got (declare_target want to p))

unfoldable pub check_with_value : Reads → Bool → Target → (want : Ty) → Expr → FlowState → Step FlowState
check_with_value read declares to want value p =
    and_then (early_outcome read p to) (assign_value read declares to want value p)

-- an annotation without a value is read alone
abbrev pub check_optional_value : Reads → Bool → Target → Option Expr → FlowState → (want : Ty) → Step FlowState
check_optional_value read declares to (Some value) p want = check_with_value read declares to want value p
check_optional_value read declares to None p want = Done (declare_target want to p)

-- an annotated assignment, by whether it declares the name that is its target at the top level or in a class
unfoldable pub annotated_assignment : Reads → Bool → AnnotatedAssignment → FlowState → Step FlowState
annotated_assignment read declares found p =
    and_then (read.annotated found.annotation) (check_optional_value read declares found.target found.value p)
