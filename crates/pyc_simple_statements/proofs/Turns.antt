-- One turn of the loops that read the items of `with` and the targets of `del` in turn.
use Rattle.std.proofs.Common.{◌≡◌, ℕ, ◌+◌, ◌<◌, List, ◌∷◌, length, map, drop, get_or, refl, ap, sym, rules}
use Rattle.pyc_ast.specs.declared.stmt.WithItem.{WithItem}
use Rattle.pyc_ast.specs.declared.target.TargetElement.{TargetElement}
use Rattle.pyc_ast.specs.declared.target.TargetForm.TheFolds.{the_lemmas}
use Rattle.pyc_ast.specs.StatementView.{with_item_of}
use Rattle.pyc_ast.specs.Targets.{another_target, target_element, target_elements}
use Rattle.pyc_ast.specs.TargetView.{target_of, target_element_of}
use Rattle.pyc_body_context.specs.Bodies.{Body}
use Rattle.pyc_locals.specs.FlowStates.{FlowState}
use Rattle.pyc_reading.proofs.RunLemmas.{one_turn}
use Rattle.pyc_reading.specs.Traces.{Trace, run}
use Rattle.pyc_reading.specs.Readings.{and_then}
use Rattle.pyc_simple_statements.specs.Deleting.{deleted, each_deleted}
use Rattle.pyc_simple_statements.specs.Heads.{item_read, items_read}

-- items of `with`
more_item : (body : Body) (p : FlowState) (x : WithItem) (xs : List WithItem)
    → items_read body (map with_item_of (x ∷ xs)) p
    ≡ and_then (item_read body (with_item_of x) p) (λ q. items_read body (map with_item_of xs) q)
unfolding items_read
more_item body p x xs = refl

pub item_turn : (body : Body) (xs : List WithItem) (i : ℕ) (x : WithItem) (p q : FlowState) (trace middle : Trace)
    → i < length xs → x ≡ get_or xs i x → run (item_read body (with_item_of x) p) trace ≡ (q, middle)
    → run (items_read body (map with_item_of (drop (i + 1) xs)) q) middle ≡ run (items_read body (map with_item_of (drop i xs)) p) trace
item_turn body xs i x p q trace middle within is first =
    sym (one_turn (λ l. items_read body (map with_item_of l) p) (λ y. item_read body (with_item_of y) p)
    (λ r l. items_read body (map with_item_of l) r) (more_item body p) xs i x trace middle q within is first)

-- targets of `del`
view_element : (x : TargetElement) → target_element_of x ≡ target_element x.is_starred (target_of x.target)
view_element x = search (rules, the_lemmas)

more_element : (body : Body) (p : FlowState) (x : TargetElement) (xs : List TargetElement)
    → each_deleted body (target_elements (map target_element_of (x ∷ xs))) p
    ≡ and_then (deleted body (target_of x.target) p) (λ q. each_deleted body (target_elements (map target_element_of xs)) q)
more_element body p x xs =
    ap (λ e. each_deleted body (another_target e (target_elements (map target_element_of xs))) p) (view_element x)

pub element_turn : (body : Body) (xs : List TargetElement) (i : ℕ) (x : TargetElement) (p q : FlowState) (trace middle : Trace)
    → i < length xs → x ≡ get_or xs i x → run (deleted body (target_of x.target) p) trace ≡ (q, middle)
    → run (each_deleted body (target_elements (map target_element_of (drop (i + 1) xs))) q) middle
    ≡ run (each_deleted body (target_elements (map target_element_of (drop i xs))) p) trace
element_turn body xs i x p q trace middle within is first =
    sym (one_turn (λ l. each_deleted body (target_elements (map target_element_of l)) p) (λ y. deleted body (target_of y.target) p)
    (λ r l. each_deleted body (target_elements (map target_element_of l)) r) (more_element body p) xs i x trace middle q within is first)
