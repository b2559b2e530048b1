-- One turn of the loops that read operands in turn.
use Rattle.std.proofs.Common.{◌≡◌, ℕ, ◌+◌, ◌<◌, List, ◌∷◌, length, map, drop, get_or, Option, refl, ap, sym, ◌∙◌}
use Rattle.pyc_operators.specs.declared.operation.Operation.{Operation}
use Rattle.pyc_operators.specs.declared.operation.UnaryOperation.{UnaryOperation}
use Rattle.pyc_operators.specs.Methods.{Caller}
use Rattle.pyc_operators.specs.Pairs.{infer_pair}
use Rattle.pyc_operators.specs.Results.{Results, pairs_of, pairs_of_left, with_result}
use Rattle.pyc_operators.specs.Unary.{each_item, one_item}
use Rattle.pyc_reading.proofs.RunLemmas.{one_turn}
use Rattle.pyc_reading.specs.Traces.{Trace, run}
use Rattle.pyc_reading.specs.Readings.{and_then}
use Rattle.pyc_type_forms.specs.declared.types.Ty.{Ty as TyOf}
use Rattle.pyc_type_forms.specs.Types.{Ty}
use Rattle.pyc_type_forms.specs.TypeView.{ty_of}

-- the pairs of a left operand
one_pair : (call : Caller) (op : Operation) (before : Results) (left : Ty) (x : TyOf) (xs : List TyOf)
    → pairs_of_left call op before left (map ty_of (x ∷ xs))
    ≡ and_then (infer_pair call op left (ty_of x)) (λ found. pairs_of_left call op (with_result before found) left (map ty_of xs))
unfolding pairs_of_left
one_pair call op before left x xs = refl

pub pair_turn : (call : Caller) (op : Operation) (before more : Results) (left : Ty) (xs : List TyOf) (i : ℕ) (x : TyOf) (found : Option Ty) (trace middle : Trace)
    → i < length xs → x ≡ get_or xs i x → run (infer_pair call op left (ty_of x)) trace ≡ (found, middle)
    → more ≡ with_result before found
    → run (pairs_of_left call op more left (map ty_of (drop (i + 1) xs))) middle ≡ run (pairs_of_left call op before left (map ty_of (drop i xs))) trace
pair_turn call op before more left xs i x found trace middle within is first pushed =
    ap (λ r. run (pairs_of_left call op r left (map ty_of (drop (i + 1) xs))) middle) pushed
    ∙ sym (one_turn (λ l. pairs_of_left call op before left (map ty_of l)) (λ y. infer_pair call op left (ty_of y))
    (λ a l. pairs_of_left call op (with_result before a) left (map ty_of l)) (one_pair call op before left) xs i x trace middle found within is first)

-- the left operands
one_left : (call : Caller) (op : Operation) (before : Results) (rights : List Ty) (x : TyOf) (xs : List TyOf)
    → pairs_of call op before (map ty_of (x ∷ xs)) rights
    ≡ and_then (pairs_of_left call op before (ty_of x) rights) (λ found. pairs_of call op found (map ty_of xs) rights)
unfolding pairs_of
one_left call op before rights x xs = refl

pub left_turn : (call : Caller) (op : Operation) (before found : Results) (rights : List Ty) (xs : List TyOf) (i : ℕ) (x : TyOf) (trace middle : Trace)
    → i < length xs → x ≡ get_or xs i x → run (pairs_of_left call op before (ty_of x) rights) trace ≡ (found, middle)
    → run (pairs_of call op found (map ty_of (drop (i + 1) xs)) rights) middle ≡ run (pairs_of call op before (map ty_of (drop i xs)) rights) trace
left_turn call op before found rights xs i x trace middle within is first =
    sym (one_turn (λ l. pairs_of call op before (map ty_of l) rights) (λ y. pairs_of_left call op before (ty_of y) rights)
    (λ a l. pairs_of call op a (map ty_of l) rights) (one_left call op before rights) xs i x trace middle found within is first)

-- the items of an operand
one_operand : (call : Caller) (op : UnaryOperation) (before : Results) (x : TyOf) (xs : List TyOf)
    → each_item call op before (map ty_of (x ∷ xs))
    ≡ and_then (one_item call op (ty_of x)) (λ found. each_item call op (with_result before found) (map ty_of xs))
unfolding each_item
one_operand call op before x xs = refl

pub item_turn : (call : Caller) (op : UnaryOperation) (before more : Results) (xs : List TyOf) (i : ℕ) (x : TyOf) (found : Option Ty) (trace middle : Trace)
    → i < length xs → x ≡ get_or xs i x → run (one_item call op (ty_of x)) trace ≡ (found, middle)
    → more ≡ with_result before found
    → run (each_item call op more (map ty_of (drop (i + 1) xs))) middle ≡ run (each_item call op before (map ty_of (drop i xs))) trace
item_turn call op before more xs i x found trace middle within is first pushed =
    ap (λ r. run (each_item call op r (map ty_of (drop (i + 1) xs))) middle) pushed
    ∙ sym (one_turn (λ l. each_item call op before (map ty_of l)) (λ y. one_item call op (ty_of y))
    (λ a l. each_item call op (with_result before a) (map ty_of l)) (one_operand call op before) xs i x trace middle found within is first)
