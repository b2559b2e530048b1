-- What a test of classes looks at of what is known of their orders.
use Rattle.std.proofs.Common.{◌≡◌, not, ◌&&◌, ◌||◌, if◌then◌else◌, List, [], ◌∷◌, ◌++◌, Option, None, Some, refl, sym, ap, ◌∙◌}
use Rattle.std.specs.List.{list_any, flat_map}
use Rattle.pyc_builtins.specs.MroTable.{builtin_orders}
use Rattle.pyc_class_ids.specs.declared.builtin_class.BuiltinClass.{BuiltinClass}
use Rattle.pyc_class_ids.specs.declared.builtin_class.BuiltinClass.TheVariants as class
use Rattle.pyc_class_ids.specs.Class.{Id, builtin, same_class, int_id, float_id}
use Rattle.pyc_class_ids.specs.Mro.{Mro, MroTable, is_unknown, order_contains}
use Rattle.pyc_narrowing.specs.SplitStates.{SplitStates, instance_states, narrow_state}
use Rattle.pyc_narrowing.specs.Splitting.{instance_test}
use Rattle.pyc_obligations.proofs.Asked.{run_two}
use Rattle.pyc_obligations.proofs.Known.{after, after_agrees, keeps, run_known}
use Rattle.pyc_reading.proofs.OwingLemmas.{AgreeEach, each_left, each_right}
use Rattle.pyc_obligations.specs.Asking.{orders_at}
use Rattle.pyc_reading.specs.Owing.{orders_by}
use Rattle.pyc_obligations.specs.Judging.{classes_asked, known_after}
use Rattle.pyc_reading.specs.Owing.{written, row_written}
use Rattle.pyc_places.specs.Places.{Place}
use Rattle.pyc_places.specs.States.{State}
use Rattle.pyc_reading.proofs.RunLemmas.{run_then}
use Rattle.pyc_reading.specs.Traces.{Trace, run}
use Rattle.pyc_reading.specs.Readings.{Done}
use Rattle.pyc_type_forms.specs.Instances.{instance_of}
use Rattle.pyc_type_forms.specs.Narrowing.{class_of, remaining_type, unless, is_taken, is_taken_class, narrowed_item, narrowed_items, narrowed_instance, narrow_to, narrow_away}
use Rattle.pyc_type_forms.specs.Types.{Ty, Tys, any, none, module_type, instance, class_object, list, dict, tuple, tuple_of, union, callable, nil, cons}
use Rattle.pyc_type_forms.specs.Unions.{items_of, row_items}

-- two orders agree on a class, if there is one
abbrev AgreeClass : MroTable → MroTable → Option Id → Type 0
AgreeClass o p (Some d) = o d ≡ p d
AgreeClass o p None = Unit

-- and on the class of each of some items
abbrev AgreeItems : MroTable → MroTable → List Ty → Type 0
AgreeItems o p [] = Unit
AgreeItems o p (item ∷ items) = AgreeClass o p (class_of item) × AgreeItems o p items

abbrev AgreeBuiltins : MroTable → MroTable → Type 0
AgreeBuiltins o p = (c : BuiltinClass) → o (builtin c) ≡ p (builtin c)

both_agree : (o p : MroTable) (xs ys : List Ty) → AgreeItems o p xs → AgreeItems o p ys → AgreeItems o p (xs ++ ys)
both_agree o p [] ys h k = k
both_agree o p (x ∷ xs) ys h k = (h.0, both_agree o p xs ys h.1 k)

mutual
  -- orders that agree on the classes that are written in a type, and on builtin ones, agree on those of its items
  items_agree : (o p : MroTable) (ty : Ty) → AgreeBuiltins o p → AgreeEach o p (written ty) → AgreeItems o p (items_of ty)
  items_agree o p any b h = (tt, tt)
  items_agree o p none b h = (tt, tt)
  items_agree o p (module_type m) b h = (tt, tt)
  items_agree o p (instance c) b h = (h.0, tt)
  items_agree o p (class_object c) b h = (tt, tt)
  items_agree o p (list x) b h = (b class.List, tt)
  items_agree o p (dict k v) b h = (b class.Dict, tt)
  items_agree o p (tuple xs) b h = (b class.Tuple, tt)
  items_agree o p (tuple_of x) b h = (b class.Tuple, tt)
  items_agree o p (union xs) b h = row_agrees o p xs b h
  items_agree o p (callable ps r) b h = (tt, tt)

  row_agrees : (o p : MroTable) (xs : Tys) → AgreeBuiltins o p → AgreeEach o p (row_written xs) → AgreeItems o p (row_items xs)
  row_agrees o p nil b h = tt
  row_agrees o p (cons x xs) b h =
      both_agree o p (items_of x) (row_items xs) (items_agree o p x b (each_left o p (written x) (row_written xs) h))
      (row_agrees o p xs b (each_right o p (written x) (row_written xs) h))

-- ---- what a test leaves

-- what is left of an item with the instances of d, by the orders of both classes
abbrev left_by : Ty → Id → Id → Mro → Mro → List Ty
left_by item d c own tested =
    if is_unknown own || order_contains own c then item ∷ []
    else if (order_contains tested d || is_unknown tested) || (same_class d float_id && same_class c int_id) then instance_of c ∷ []
    else []

same_instance : (o p : MroTable) (item : Ty) (d c : Id) → o d ≡ p d → o c ≡ p c → narrowed_instance o item d c ≡ narrowed_instance p item d c
same_instance o p item d c own tested = ap (λ (x : Mro). left_by item d c x (o c)) own ∙ ap (λ (x : Mro). left_by item d c (p d) x) tested

same_item : (o p : MroTable) (item : Ty) (c : Id) → AgreeClass o p (class_of item) → o c ≡ p c → narrowed_item o item c ≡ narrowed_item p item c
same_item o p any c own tested = refl
same_item o p none c own tested = refl
same_item o p (module_type m) c own tested = refl
same_item o p (instance d) c own tested = same_instance o p (instance d) d c own tested
same_item o p (class_object d) c own tested = refl
same_item o p (list x) c own tested = same_instance o p (list x) (builtin class.List) c own tested
same_item o p (dict k v) c own tested = same_instance o p (dict k v) (builtin class.Dict) c own tested
same_item o p (tuple xs) c own tested = same_instance o p (tuple xs) (builtin class.Tuple) c own tested
same_item o p (tuple_of x) c own tested = same_instance o p (tuple_of x) (builtin class.Tuple) c own tested
same_item o p (union xs) c own tested = refl
same_item o p (callable ps r) c own tested = refl

same_by_each : (o p : MroTable) (item : Ty) (cs : List Id) → AgreeClass o p (class_of item) → AgreeEach o p cs → narrowed_items o cs item ≡ narrowed_items p cs item
same_by_each o p item [] own tested = refl
same_by_each o p item (c ∷ cs) own tested =
    ap (λ l. l ++ narrowed_items o cs item) (same_item o p item c own tested.0) ∙ ap (λ l. narrowed_item p item c ++ l) (same_by_each o p item cs own tested.1)

same_left : (o p : MroTable) (cs : List Id) (items : List Ty) → AgreeItems o p items → AgreeEach o p cs
    → flat_map (narrowed_items o cs) items ≡ flat_map (narrowed_items p cs) items
same_left o p cs [] own tested = refl
same_left o p cs (item ∷ items) own tested =
    ap (λ l. l ++ flat_map (narrowed_items o cs) items) (same_by_each o p item cs own.0 tested)
    ∙ ap (λ l. narrowed_items p cs item ++ l) (same_left o p cs items own.1 tested)

same_taken : (o p : MroTable) (cs : List Id) (d : Option Id) → AgreeClass o p d → is_taken_class o cs d ≡ is_taken_class p cs d
same_taken o p cs (Some d) own = ap (λ (x : Mro). not (is_unknown x) && list_any (order_contains x) cs) own
same_taken o p cs None own = refl

same_kept : (o p : MroTable) (cs : List Id) (items : List Ty) → AgreeItems o p items
    → flat_map (λ item. unless (is_taken o cs item) item) items ≡ flat_map (λ item. unless (is_taken p cs item) item) items
same_kept o p cs [] own = refl
same_kept o p cs (item ∷ items) own =
    ap (λ b. unless b item ++ flat_map (λ item. unless (is_taken o cs item) item) items) (same_taken o p cs (class_of item) own.0)
    ∙ ap (λ l. unless (is_taken p cs item) item ++ l) (same_kept o p cs items own.1)

-- a test of classes looks only at the orders of its classes, of those that are written in the type, and of builtin ones
same_states : (o p : MroTable) (s : State) (place : Place) (ty : Ty) (cs : List Id) → AgreeBuiltins o p → AgreeEach o p (written ty) → AgreeEach o p cs
    → instance_states o s place ty cs ≡ instance_states p s place ty cs
same_states o p s place ty cs b own tested =
    let items = items_agree o p ty b own in
    ap (λ (l : List Ty). record { if_true = narrow_state s place ty (remaining_type ty l); if_false = narrow_state s place ty (narrow_away o ty cs) }) (same_left o p cs (items_of ty) items tested)
    ∙ ap (λ (l : List Ty). record { if_true = narrow_state s place ty (narrow_to p ty cs); if_false = narrow_state s place ty (remaining_type ty l) }) (same_kept o p cs (items_of ty) items)

-- ---- the test

-- to ask the classes that are written in `ty`, and then `classes`, and to test by the orders at the trace, is the test
pub tested_done : (s : State) (place : Place) (ty : Ty) (classes : List Id) (d middle e : Trace) (states : SplitStates) → run (classes_asked (written ty)) d ≡ (tt, middle) → run (classes_asked classes) middle ≡ (tt, e)
    → e.answers ≡ d.answers → states ≡ instance_states (orders_at e) s place ty classes → run (instance_test s place ty classes) d ≡ (states, e)
unfolding instance_test
tested_done s place ty classes d middle e states first second answers is =
    let cs = written ty ++ classes in
    let known = after cs builtin_orders d.answers in
    let agree = after_agrees cs builtin_orders d.answers in
    let builtins : AgreeBuiltins known (orders_at d) = λ c. keeps cs builtin_orders d.answers (builtin c) refl in
    run_then (known_after cs builtin_orders) (λ orders. Done (instance_states orders s place ty classes)) d
    ∙ ap (λ (found : MroTable × Trace). run (Done (instance_states found.0 s place ty classes)) found.1) (run_known cs builtin_orders d)
    ∙ ap (λ (found : SplitStates). (found, (run (classes_asked cs) d).1)) (same_states known (orders_at d) s place ty classes builtins (each_left known (orders_at d) (written ty) classes agree) (each_right known (orders_at d) (written ty) classes agree))
    ∙ ap (λ (found : Unit × Trace). (instance_states (orders_at d) s place ty classes, found.1)) (run_two (written ty) classes d middle first ∙ second)
    ∙ ap (λ (found : SplitStates). (found, e)) (ap (λ a. instance_states (orders_by a) s place ty classes) (sym answers) ∙ sym is)
