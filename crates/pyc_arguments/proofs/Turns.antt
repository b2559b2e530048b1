-- One turn of the loops that perform readings in turn.
use Rattle.std.proofs.Common.{◌≡◌, ℕ, suc, ◌+◌, ◌<◌, List, [], ◌∷◌, ◌++◌, length, map, drop, get_or, add-one, drop-cons, None, refl, ap, sym, ◌∙◌}
use Rattle.pyc_ast.specs.declared.expr.Argument.{Argument}
use Rattle.pyc_ast.specs.ExprView.{argument_of, expr_of}
use Rattle.pyc_arguments.proofs.Parts.{view_unread}
use Rattle.pyc_arguments.specs.Arguments.{Arg, Reads, unread, read_before, once_read, all_read, more_read, given_by, places_of}
use Rattle.pyc_arguments.specs.Matched.{Filling, argument_matched, arguments_matched, number_after}
use Rattle.pyc_arguments.specs.Reporting.{Call}
use Rattle.pyc_arguments.specs.Views.{unread_in}
use Rattle.pyc_reading.proofs.RunLemmas.{run_then}
use Rattle.pyc_reading.specs.Traces.{Step, Trace, run}
use Rattle.pyc_reading.specs.Readings.{and_then}
use Rattle.pyc_type_forms.specs.Types.{Ty, Listed}

-- one turn of a loop whose rest depends on what was looked at
pub one_turn_of : {A B X : Type 0} (whole : List X → Step B) (r : X → Step A) (next : X → A → List X → Step B)
    → ((x : X) (xs : List X) → whole (x ∷ xs) ≡ and_then (r x) (λ a. next x a xs))
    → (xs : List X) (i : ℕ) (x : X) (trace middle : Trace) (a : A) → i < length xs → x ≡ get_or xs i x → run (r x) trace ≡ (a, middle)
    → run (whole (drop i xs)) trace ≡ run (next x a (drop (i + 1) xs)) middle
one_turn_of {A} whole r next opens xs i x trace middle a within is first =
    let left : drop i xs ≡ x ∷ drop (i + 1) xs = rw add-one (drop-cons xs i x within ∙ ap (λ y. y ∷ drop (suc i) xs) (sym is)) in
    ap (λ l. run (whole l) trace) left
    ∙ ap (λ s. run s trace) (opens x (drop (i + 1) xs))
    ∙ run_then (r x) (λ b. next x b (drop (i + 1) xs)) trace
    ∙ ap (λ (found : A × Trace). run (next x found.0 (drop (i + 1) xs)) found.1) first

-- arguments that are read alone
opens_read : (read : Reads) (x : Argument) (xs : List Argument) → all_read (unread_in read (x ∷ xs)) ≡ and_then (read (expr_of x.value) None) (λ ty. all_read (unread_in read xs))
unfolding all_read
opens_read read x xs = ap (λ (arg : Arg). and_then (arg.got None) (λ ty. all_read (unread_in read xs))) (view_unread read x)

pub read_turn : (read : Reads) (xs : List Argument) (i : ℕ) (x : Argument) (ty : Ty) (trace middle : Trace)
    → i < length xs → x ≡ get_or xs i x → run (read (expr_of x.value) None) trace ≡ (ty, middle)
    → run (all_read (unread_in read (drop (i + 1) xs))) middle ≡ run (all_read (unread_in read (drop i xs))) trace
read_turn read xs i x ty trace middle within is first =
    sym (one_turn_of (λ l. all_read (unread_in read l)) (λ y. read (expr_of y.value) None) (λ y a l. all_read (unread_in read l)) (opens_read read) xs i x trace middle ty within is first)

-- arguments that are read once
opens_once : (read : Reads) (before : List Arg) (x : Argument) (xs : List Argument)
    → more_read before (unread_in read (x ∷ xs)) ≡ and_then (read (expr_of x.value) None) (λ ty. more_read (before ++ (read_before x.at x.kind ty ∷ [])) (unread_in read xs))
unfolding more_read
opens_once read before x xs =
    ap (λ (arg : Arg). and_then (arg.got None) (λ ty. more_read (before ++ (once_read arg ty ∷ [])) (unread_in read xs))) (view_unread read x)

pub once_turn : (read : Reads) (before more : List Arg) (xs : List Argument) (i : ℕ) (x : Argument) (ty : Ty) (trace middle : Trace)
    → i < length xs → x ≡ get_or xs i x → run (read (expr_of x.value) None) trace ≡ (ty, middle) → more ≡ before ++ (read_before x.at x.kind ty ∷ [])
    → run (more_read more (unread_in read (drop (i + 1) xs))) middle ≡ run (more_read before (unread_in read (drop i xs))) trace
once_turn read before more xs i x ty trace middle within is first pushed =
    ap (λ l. run (more_read l (unread_in read (drop (i + 1) xs))) middle) pushed
    ∙ sym (one_turn_of (λ l. more_read before (unread_in read l)) (λ y. read (expr_of y.value) None)
    (λ y a l. more_read (before ++ (read_before y.at y.kind a ∷ [])) (unread_in read l)) (opens_once read before) xs i x trace middle ty within is first)

-- arguments that are matched
opens_matched : {X : Type 0} (view : X → Arg) (call : Call) (params : Listed) (number : ℕ) (filling : Filling) (x : X) (xs : List X)
    → arguments_matched call params number filling (map view (x ∷ xs))
    ≡ and_then (argument_matched call params (number_after number (view x)) filling (view x)) (λ filled. arguments_matched call params (number_after number (view x)) filled (map view xs))
unfolding arguments_matched
opens_matched view call params number filling x xs = refl

pub matched_turn : {X : Type 0} (view : X → Arg) (call : Call) (params : Listed) (number next : ℕ) (filling filled : Filling) (xs : List X) (i : ℕ) (x : X) (trace middle : Trace)
    → i < length xs → x ≡ get_or xs i x → next ≡ number_after number (view x) → run (argument_matched call params next filling (view x)) trace ≡ (filled, middle)
    → run (arguments_matched call params next filled (map view (drop (i + 1) xs))) middle ≡ run (arguments_matched call params number filling (map view (drop i xs))) trace
matched_turn view call params number next filling filled xs i x trace middle within is counted first =
    ap (λ n. run (arguments_matched call params n filled (map view (drop (i + 1) xs))) middle) counted
    ∙ sym (one_turn_of (λ l. arguments_matched call params number filling (map view l)) (λ y. argument_matched call params (number_after number (view y)) filling (view y))
    (λ y a l. arguments_matched call params (number_after number (view y)) a (map view l)) (opens_matched view call params number filling) xs i x trace middle filled within is
    (ap (λ n. run (argument_matched call params n filling (view x)) trace) (sym counted) ∙ first))

-- the number after an argument that is to be read
pub counted_unread : (read : Reads) (x : Argument) (number : ℕ) → number + places_of (given_by x.kind) ≡ number_after number (unread read (argument_of x))
counted_unread read x number = ap (λ (arg : Arg). number_after number arg) (sym (view_unread read x))
