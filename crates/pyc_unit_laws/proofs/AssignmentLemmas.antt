-- What assignments ask, where their parts ask files alone.
use Rattle.std.proofs.Common.{ℕ, ◌+◌, Bool, true, false, not, ◌&&◌, nat_eq, nat_lt, List, [], ◌∷◌, Option, None, Some}
use Rattle.std.specs.List.{slice_get}
use Rattle.pyc_assignments.specs.Assignments.{annotated_assignment, ask_want, assign_target, assignment, assignment_by, assign_each, early_form_outcome, early_outcome, first_outcome, first_single, form_assigned, check_optional_value, late_form_want, late_want, name_want, assign_single, declare_target, assign_targets, assign_value, store_value, check_with_value}
use Rattle.pyc_assignments.specs.Reads.{AssignmentOutcome, Reads, new_local, target_type_outcome, infer_type_at, want_of}
use Rattle.pyc_assignments.specs.Singles.{attribute_outcome, form_outcome, outcome, subscript_outcome}
use Rattle.pyc_assignments.specs.Storing.{assignment_required, is_any, is_union, narrow_by_want, narrow_if_assignable, narrow_if_union, required_assignment, assign_place, renarrow, target_type_stored, store_in_target, want_required}
use Rattle.pyc_assignments.specs.Unpacking.{Shares, has_starred, iterated_shares, share_at, shares_by_type, shares_of, target_count, too_few, too_many, tuple_shares}
use Rattle.pyc_ast.specs.declared.position.Position.{Position}
use Rattle.pyc_ast.specs.Exprs.{Expr, Index, at_of}
use Rattle.pyc_ast.specs.Statements.{AnnotatedAssignment}
use Rattle.pyc_ast.specs.Targets.{Target, TargetElements, TargetForm, another_target, attribute, name, no_target, subscript, target, target_element, unpacking}
use Rattle.pyc_unit_laws.proofs.FileLemmas.{attribute_target_of_files, subscript_target_of_files}
use Rattle.pyc_expression_laws.proofs.ItemKeyLemmas.{of-infer_iteration}
use Rattle.pyc_expression_laws.proofs.ObligationKeyLemmas.{of-judge_assignable, of-required}
use Rattle.pyc_expression_laws.proofs.StepLemmas.{Files, files_done, files_if, files_report, files_then}
use Rattle.pyc_subscripts.specs.Chosen.{row_length}
use Rattle.pyc_locals.specs.FlowStates.{FlowState}
use Rattle.pyc_places.specs.Places.{Place}
use Rattle.pyc_places.specs.States.{State, drop_place}
use Rattle.pyc_places.specs.TargetPlaces.{target_place}
use Rattle.pyc_targets.specs.TargetTypes.{TargetType}
use Rattle.pyc_type_forms.specs.Types.{Ty, tuple}

-- ---- what a target takes

of-assignment_required : (at : Position) (is_item : Bool) (got want : Ty) → Files (assignment_required at is_item got want)
unfolding assignment_required
of-assignment_required at is_item got want = of-required (required_assignment at is_item got want)

of-want_required : (at : Position) (is_item : Bool) (got : Ty) (want : Option Ty) → Files (want_required at is_item got want)
of-want_required at is_item got (Some want) = of-assignment_required at is_item got want
of-want_required at is_item got None = files_done

of-narrow_if_union : (place : Place) (want got : Ty) (s : State) → Files (narrow_if_union place want got s)
unfolding narrow_if_assignable
of-narrow_if_union place want got s = files_if (is_union want && not (is_any got)) _ _ (files_then _ _ (of-judge_assignable got want) (λ goes. files_done)) files_done

of-narrow_by_want : (place : Place) (want : Option Ty) (got : Ty) (s : State) → Files (narrow_by_want place want got s)
of-narrow_by_want place (Some want) got s = of-narrow_if_union place want got s
of-narrow_by_want place None got s = files_done

of-assign_place : (place : Option Place) (want : Option Ty) (got : Ty) (s : State) → Files (assign_place place want got s)
of-assign_place (Some place) want got s = of-narrow_by_want place want got (drop_place place s)
of-assign_place None want got s = files_done

of-renarrow : (to : Target) (want : Option Ty) (got : Ty) (s : State) → Files (renarrow to want got s)
of-renarrow to want got s = of-assign_place (target_place to) want got s

of-target_type_stored : (at : Position) (to : Target) (target_type : TargetType) (got : Ty) (p : FlowState) → Files (target_type_stored at to target_type got p)
unfolding target_type_stored
of-target_type_stored at to target_type got p =
    files_then _ _ (of-want_required at target_type.is_item got target_type.want) (λ u. files_then _ _ (of-renarrow to target_type.want got p.state) (λ s. files_done))

of-store_in_target : (at : Position) (to : Target) (found : AssignmentOutcome) (got : Ty) (p : FlowState) → Files (store_in_target at to found got p)
of-store_in_target at to (target_type_outcome target_type) got p = of-target_type_stored at to target_type got p
of-store_in_target at to (new_local x) got p = files_done

-- ---- shares

of-tuple_shares : (at : Position) (provided expected : ℕ) (ty : Ty) → Files (tuple_shares at provided expected ty)
unfolding too_few too_many
of-tuple_shares at provided expected ty =
    files_if (nat_eq provided expected) _ _ files_done (files_if (nat_lt provided expected) _ _ (files_report files_done) (files_report files_done))

of-iterated_shares : (at : Position) (ty : Ty) → Files (iterated_shares at ty)
unfolding iterated_shares
of-iterated_shares at ty = files_then _ _ (of-infer_iteration at ty) (λ item. files_done)

of-shares_by_type : (at : Position) (expected : ℕ) (ty : Ty) → Files (shares_by_type at expected ty)
of-shares_by_type at expected (tuple items) = of-tuple_shares at (row_length items) expected (tuple items)
of-shares_by_type at expected ty = of-iterated_shares at ty

of-shares_of : (at : Position) (is_starred : Bool) (expected : ℕ) (ty : Ty) → Files (shares_of at is_starred expected ty)
of-shares_of at true expected ty = files_done
of-shares_of at false expected ty = of-shares_by_type at expected ty

-- ---- assignments

-- the parts of assignments ask files alone
pub record PartsAskFiles (read : Reads) : Type 0 where
  pub values : (p : FlowState) (x : Expr) (want : Option Ty) → Files (read.value p x want)
  pub indices : (p : FlowState) (brackets : Index) → Files (read.index p brackets)
  pub names : (p : FlowState) (x : List ℕ) → Files (read.outcome p x)
  pub annotations : (x : Expr) → Files (read.annotated x)

module _ (read : Reads) (parts : PartsAskFiles read) where
  of-infer_type_at : (p : FlowState) (x : Expr) (want : Option Ty) → Files (infer_type_at read p x want)
  unfolding infer_type_at
  of-infer_type_at p x want = files_then _ _ (parts.values p x want) (λ found. files_done)

  of-attribute_outcome : (p : FlowState) (at inside : Position) (x : Expr) (n : List ℕ) → Files (attribute_outcome read p at inside x n)
  unfolding attribute_outcome
  of-attribute_outcome p at inside x n =
      files_then _ _ (parts.values p x None) (λ owner. files_then _ _ (record { all = attribute_target_of_files at inside owner n }) (λ want. files_done))

  of-subscript_outcome : (p : FlowState) (at inside : Position) (x : Expr) (brackets : Index) → Files (subscript_outcome read p at inside x brackets)
  unfolding subscript_outcome
  of-subscript_outcome p at inside x brackets =
      files_then _ _ (of-infer_type_at p x None) (λ ty.
      files_then _ _ (parts.indices p brackets) (λ got.
      files_then _ _ (record { all = subscript_target_of_files at inside brackets got ty }) (λ target_type. files_done)))

  of-form_outcome : (p : FlowState) (at inside : Position) (form : TargetForm) → Files (form_outcome read p at inside form)
  of-form_outcome p at inside (name x) = parts.names p x
  of-form_outcome p at inside (attribute x n) = of-attribute_outcome p at inside x n
  of-form_outcome p at inside (subscript x brackets) = of-subscript_outcome p at inside x brackets
  of-form_outcome p at inside (unpacking elements) = files_done

  of-outcome : (p : FlowState) (to : Target) → Files (outcome read p to)
  of-outcome p (target at inside form) = of-form_outcome p at inside form

  of-assign_single : (at : Position) (to : Target) (ty : Ty) (p : FlowState) → Files (assign_single read at to ty p)
  unfolding assign_single
  of-assign_single at to ty p = files_then _ _ (of-outcome p to) (λ found. of-store_in_target at to found ty p)

  mutual
    pub of-assign_target : (at : Position) (to : Target) (ty : Ty) (p : FlowState) → Files (assign_target read at to ty p)
    of-assign_target at (target out inside form) ty p = of-form_assigned at (target out inside form) form ty p

    of-form_assigned : (at : Position) (whole : Target) (form : TargetForm) (ty : Ty) (p : FlowState) → Files (form_assigned read at whole form ty p)
    of-form_assigned at whole (unpacking elements) ty p =
        files_then _ _ (of-shares_of at (has_starred elements) (target_count elements) ty) (λ found. of-assign_each at found 0 elements p)
    of-form_assigned at whole form ty p = of-assign_single at whole ty p

    of-assign_each : (at : Position) (found : Shares) (index : ℕ) (elements : TargetElements) (p : FlowState) → Files (assign_each read at found index elements p)
    of-assign_each at found index no_target p = files_done
    of-assign_each at found index (another_target (target_element starred to) rest) p =
        files_then _ _ (of-assign_target at to (share_at found index) p) (λ q. of-assign_each at found (index + 1) rest q)

  of-first_outcome : (p : FlowState) (to : Option Target) → Files (first_outcome read p to)
  of-first_outcome p (Some to) = of-outcome p to
  of-first_outcome p None = files_done

  of-assign_targets : (at : Position) (found : AssignmentOutcome) (first : ℕ) (ty : Ty) (index : ℕ) (targets : List Target) (p : FlowState)
      → Files (assign_targets read at found first ty index targets p)
  unfolding assign_targets
  of-assign_targets at found first ty index [] p = files_done
  of-assign_targets at found first ty index (to ∷ rest) p =
      files_then _ _ (files_if (nat_eq index first) _ _ (of-store_in_target at to found ty p) (of-assign_target at to ty p))
      (λ q. of-assign_targets at found first ty (index + 1) rest q)

  pub of-assignment : (targets : List Target) (value : Expr) (p : FlowState) → Files (assignment read targets value p)
  unfolding assignment assignment_by
  of-assignment targets value p =
      files_then _ _ (of-first_outcome p (slice_get targets (first_single targets))) (λ found.
      files_then _ _ (of-infer_type_at p value (want_of found)) (λ ty.
      of-assign_targets (at_of value) found (first_single targets) ty 0 targets p))

  -- ---- annotated assignments

  of-early_form_outcome : (p : FlowState) (whole : Target) (form : TargetForm) → Files (early_form_outcome read p whole form)
  of-early_form_outcome p whole (name x) = files_done
  of-early_form_outcome p whole _ = of-outcome p whole

  of-early_outcome : (p : FlowState) (to : Target) → Files (early_outcome read p to)
  of-early_outcome p (target at inside form) = of-early_form_outcome p (target at inside form) form

  of-name_want : (declares : Bool) (want : Ty) (p : FlowState) (x : List ℕ) → Files (name_want read declares want p x)
  unfolding ask_want
  of-name_want true want p x = files_done
  of-name_want false want p x = files_then _ _ (parts.names p x) (λ found. files_done)

  of-late_form_want : (declares : Bool) (want : Ty) (p : FlowState) (early : AssignmentOutcome) (form : TargetForm) → Files (late_form_want read declares want p early form)
  of-late_form_want declares want p early (name x) = of-name_want declares want p x
  of-late_form_want declares want p early _ = files_done

  of-late_want : (declares : Bool) (want : Ty) (p : FlowState) (early : AssignmentOutcome) (to : Target) → Files (late_want read declares want p early to)
  of-late_want declares want p early (target at inside form) = of-late_form_want declares want p early form

  of-store_value : (declares : Bool) (to : Target) (want : Ty) (early : AssignmentOutcome) (at : Position) (got : Ty) (p : FlowState)
      → Files (store_value read declares to want early at got p)
  unfolding store_value
  of-store_value declares to want early at got p =
      files_then _ _ (of-late_want declares want p early to) (λ takes.
      files_then _ _ (of-assignment_required at false got want) (λ u.
      files_then _ _ (of-renarrow to takes got p.state) (λ s. files_done)))

  of-check_optional_value : (declares : Bool) (to : Target) (value : Option Expr) (p : FlowState) (want : Ty) → Files (check_optional_value read declares to value p want)
  unfolding check_with_value assign_value
  of-check_optional_value declares to (Some value) p want =
      files_then _ _ (of-early_outcome p to) (λ early.
      files_then _ _ (of-infer_type_at p value (Some want)) (λ got. of-store_value declares to want early (at_of value) got (declare_target want to p)))
  of-check_optional_value declares to None p want = files_done

  pub of-annotated_assignment : (declares : Bool) (found : AnnotatedAssignment) (p : FlowState) → Files (annotated_assignment read declares found p)
  unfolding annotated_assignment
  of-annotated_assignment declares found p = files_then _ _ (parts.annotations found.annotation) (of-check_optional_value declares found.target found.value p)
