-- One turn of the loops that assign to targets in turn.
use Rattle.std.proofs.Common.{◌≡◌, ℕ, ◌+◌, ◌<◌, nat_eq, List, ◌∷◌, length, map, drop, get_or, refl, ap, sym, ◌∙◌}
use Rattle.pyc_assignments.proofs.Targets.{view_element}
use Rattle.pyc_assignments.specs.Assignments.{assign_target, assign_each, assign_one, assign_targets}
use Rattle.pyc_assignments.specs.Reads.{AssignmentOutcome, Reads}
use Rattle.pyc_assignments.specs.Unpacking.{Shares, share_at}
use Rattle.pyc_ast.specs.declared.position.Position.{Position}
use Rattle.pyc_ast.specs.declared.target.Target.{Target}
use Rattle.pyc_ast.specs.declared.target.TargetElement.{TargetElement}
use Rattle.pyc_ast.specs.Targets.{another_target, target_elements}
use Rattle.pyc_ast.specs.TargetView.{target_of, target_element_of}
use Rattle.pyc_locals.specs.FlowStates.{FlowState}
use Rattle.pyc_reading.proofs.RunLemmas.{one_turn}
use Rattle.pyc_reading.specs.Traces.{Trace, run}
use Rattle.pyc_reading.specs.Readings.{and_then}
use Rattle.pyc_type_forms.specs.Types.{Ty}

-- targets that get their shares
more_element : (read : Reads) (at : Position) (found : Shares) (i : ℕ) (p : FlowState) (x : TargetElement) (xs : List TargetElement)
    → assign_each read at found i (target_elements (map target_element_of (x ∷ xs))) p
    ≡ and_then (assign_target read at (target_of x.target) (share_at found i) p) (λ q. assign_each read at found (i + 1) (target_elements (map target_element_of xs)) q)
more_element read at found i p x xs = ap (λ e. assign_each read at found i (another_target e (target_elements (map target_element_of xs))) p) (view_element x)

pub element_turn : (read : Reads) (at : Position) (found : Shares) (xs : List TargetElement) (i : ℕ) (x : TargetElement) (ty : Ty) (p q : FlowState) (trace middle : Trace)
    → i < length xs → x ≡ get_or xs i x → ty ≡ share_at found i → run (assign_target read at (target_of x.target) ty p) trace ≡ (q, middle)
    → run (assign_each read at found (i + 1) (target_elements (map target_element_of (drop (i + 1) xs))) q) middle
    ≡ run (assign_each read at found i (target_elements (map target_element_of (drop i xs))) p) trace
element_turn read at found xs i x ty p q trace middle within is share first =
    sym (one_turn (λ l. assign_each read at found i (target_elements (map target_element_of l)) p) (λ y. assign_target read at (target_of y.target) (share_at found i) p)
    (λ r l. assign_each read at found (i + 1) (target_elements (map target_element_of l)) r) (more_element read at found i p) xs i x trace middle q within is
    (ap (λ y. run (assign_target read at (target_of x.target) y p) trace) (sym share) ∙ first))

-- targets of an assignment
more_target : (read : Reads) (at : Position) (found : AssignmentOutcome) (first : ℕ) (ty : Ty) (i : ℕ) (p : FlowState) (x : Target) (xs : List Target)
    → assign_targets read at found first ty i (map target_of (x ∷ xs)) p
    ≡ and_then (assign_one read at found (nat_eq i first) ty (target_of x) p) (λ q. assign_targets read at found first ty (i + 1) (map target_of xs) q)
unfolding assign_targets
more_target read at found first ty i p x xs = refl

pub target_turn : (read : Reads) (at : Position) (found : AssignmentOutcome) (first : ℕ) (ty : Ty) (xs : List Target) (i : ℕ) (x : Target) (p q : FlowState) (trace middle : Trace)
    → i < length xs → x ≡ get_or xs i x → run (assign_one read at found (nat_eq i first) ty (target_of x) p) trace ≡ (q, middle)
    → run (assign_targets read at found first ty (i + 1) (map target_of (drop (i + 1) xs)) q) middle
    ≡ run (assign_targets read at found first ty i (map target_of (drop i xs)) p) trace
target_turn read at found first ty xs i x p q trace middle within is done =
    sym (one_turn (λ l. assign_targets read at found first ty i (map target_of l) p) (λ y. assign_one read at found (nat_eq i first) ty (target_of y) p)
    (λ r l. assign_targets read at found first ty (i + 1) (map target_of l) r) (more_target read at found first ty i p) xs i x trace middle q within is done)
