-- Walks through calls, a step at a time.
use Rattle.std.proofs.Common.{◌≡◌, ◌<◌, ◌≤◌, ◌-◌, ℕ, suc, true, false, List, [], ◌∷◌, ◌++◌, Option, None, Some, refl, sym, ap, ◌∙◌, codes, arith}
use Rattle.std.proofs.lemmas.Bool.{false≢true}
use Rattle.pyc_arguments.specs.Arguments.{Arg, read_once}
use Rattle.pyc_arguments.specs.Reporting.{Call}
use Rattle.pyc_calls.specs.Called.{infer_given_call, infer_any_call, infer_plain_call, report_refused, without_call, Called, Calls, ItemsCalled, remembering_same, call_given, infer_member_call, by_progress, by_member, source_called, instance_called, joined, called_by, items_called, called_to, typed}
use Rattle.pyc_calls.specs.Remembered.{Memory, Progress, fresh, under_way, gave, progress_of, remembering}
use Rattle.pyc_calls.specs.Walks.{CallOutcome, came, met_new, coming, progress_met, member_met, source_met, instance_met, callee_form, CalleeForm, an_instance, another_callee, is_union, form_met, Waiting, class_waits, union_waits, Walk, calls, gives, meets, Stood, standing_met, next_item, opened, waiting_given, form_stepped, begun, union_after, classes_waiting, resumed, depth_left, left, first_left, called_in, IsRead}
use Rattle.pyc_class_ids.specs.Class.{Id, builtin, user}
use Rattle.pyc_obligations.specs.Asking.{ask_member}
use Rattle.pyc_reading.proofs.RunLemmas.{after, run_then}
use Rattle.pyc_reading.specs.Answers.{MemberAnswer}
use Rattle.pyc_reading.specs.Traces.{Step, Trace, run}
use Rattle.pyc_reading.specs.Readings.{Done, Ask, Report, Require, and_then}
use Rattle.pyc_type_forms.specs.Types.{Ty, Tys, any, none, module_type, instance, class_object, list, dict, tuple, tuple_of, union, callable, nil, cons}

-- readings one after another, however they are grouped
pub then_then : {A B C : Type 0} (r : Step A) (f : A → Step B) (g : B → Step C) → and_then (and_then r f) g ≡ and_then r (λ a. and_then (f a) g)
unfolding and_then
then_then (Done a) f g = refl
then_then (Ask key go) f g = λ i. Ask key (λ answer. then_then (go answer) f g i)
then_then (Report diagnostic rest) f g = ap (Report diagnostic) (then_then rest f g)
then_then (Require row rest) f g = ap (Require row) (then_then rest f g)

-- ---- one class

module _ (deeper : Calls) (memory : Memory) (args : List Arg) where
  -- after a call of an instance of a class came to this
  abbrev met_called : CallOutcome → Step Called
  met_called (came ty) = Done (record { ty = ty; memory = memory })
  met_called (met_new c bound) = and_then (deeper (remembering memory c under_way) args bound) (λ call_result. Done (call_given c call_result))

  coming_is : (call : Step Ty) → remembering_same memory call ≡ and_then (coming call) met_called
  unfolding remembering_same coming and_then
  coming_is call = sym (then_then call (λ ty. Done (came ty)) met_called)

  progress_is : (c : Id) (progress : Progress) (found : MemberAnswer) → by_progress deeper memory args c progress found ≡ and_then (progress_met args c progress found) met_called
  unfolding infer_member_call and_then
  progress_is c fresh found = refl
  progress_is c under_way found = coming_is (infer_any_call args)
  progress_is c (gave ty) found = coming_is (infer_given_call args ty)

  member_is : (call : Call) (c : Id) (progress : Progress) (found : Option MemberAnswer) → by_member deeper call memory args c progress found ≡ and_then (member_met call args c progress found) met_called
  member_is call c progress (Some found) = progress_is c progress found
  member_is call c progress None = coming_is (without_call call args c)

  source_is : (call : Call) (c : Id) → source_called deeper call memory args c ≡ and_then (source_met call memory args c) met_called
  unfolding source_called source_met
  source_is call c =
      let asked = ask_member c (codes "__call__") in
      (λ i. and_then asked (λ found. member_is call c (progress_of memory c) found i))
      ∙ sym (then_then asked (member_met call args c (progress_of memory c)) met_called)

  instance_is : (call : Call) (c : Id) → instance_called deeper call memory args c ≡ and_then (instance_met call memory args c) met_called
  instance_is call (builtin c) = coming_is (report_refused call args (instance (builtin c)))
  instance_is call (user m x) = source_is call (user m x)

  -- what is no union is called
  form_is : (call : Call) (ty : Ty) → is_union ty ≡ false → called_by deeper call memory args ty ≡ and_then (form_met call memory args ty (callee_form ty)) met_called
  form_is call any h = coming_is (infer_plain_call call args any)
  form_is call none h = coming_is (infer_plain_call call args none)
  form_is call (module_type m) h = coming_is (infer_plain_call call args (module_type m))
  form_is call (instance c) h = instance_is call c
  form_is call (class_object c) h = coming_is (infer_plain_call call args (class_object c))
  form_is call (list x) h = coming_is (infer_plain_call call args (list x))
  form_is call (dict k v) h = coming_is (infer_plain_call call args (dict k v))
  form_is call (tuple xs) h = coming_is (infer_plain_call call args (tuple xs))
  form_is call (tuple_of x) h = coming_is (infer_plain_call call args (tuple_of x))
  form_is call (union xs) h = absurd (false≢true (sym h))
  form_is call (callable ps r) h = coming_is (infer_plain_call call args (callable ps r))

-- ---- before any union

module _ (depth : ℕ) (call : Call) (memory : Memory) (args : List Arg) where
  met_typed : (met : CallOutcome) → typed (met_called (called_to depth call) memory args met) ≡ first_left depth call args memory met
  unfolding and_then
  met_typed (came ty) = refl
  met_typed (met_new c bound) = then_then (called_to depth call (remembering memory c under_way) args bound) (λ call_result. Done (call_given c call_result)) (λ call_result. Done call_result.ty)

  first_is : (ty : Ty) → is_union ty ≡ false → typed (called_in depth call memory args ty) ≡ and_then (form_met call memory args ty (callee_form ty)) (first_left depth call args memory)
  first_is ty h =
      let met = form_met call memory args ty (callee_form ty) in
      ap typed (form_is (called_to depth call) memory args call ty h)
      ∙ then_then met (met_called (called_to depth call) memory args) (λ call_result. Done call_result.ty)
      ∙ (λ i. and_then met (λ found. met_typed found i))

  -- what is no union comes to what it meets first
  pub first_runs : (ty : Ty) (old new : Trace) (met : CallOutcome) → is_union ty ≡ false → run (form_met call memory args ty (callee_form ty)) old ≡ (met, new)
      → run (typed (called_in depth call memory args ty)) old ≡ run (first_left depth call args memory met) new
  first_runs ty old new met h first =
      ap (λ r. run r old) (first_is ty h)
      ∙ run_then (form_met call memory args ty (callee_form ty)) (first_left depth call args memory) old
      ∙ ap (λ (found : CallOutcome × Trace). run (first_left depth call args memory found.0) found.1) first

  -- the arguments of a union are read once
  pub union_runs : (ty : Ty) (read : List Arg) (old new : Trace) → is_union ty ≡ true → IsRead read → run (read_once args) old ≡ (read, new)
      → run (typed (called_in depth call memory args ty)) old ≡ run (typed (called_in depth call memory read ty)) new
  unfolding and_then
  union_runs (union items) read old new h again first =
      let rest = λ (xs : List Arg). and_then (items_called (called_to depth call) call [] memory xs items) (λ call_result. Done (joined call_result)) in
      ap (λ r. run r old) (then_then (read_once args) rest (λ call_result. Done call_result.ty))
      ∙ run_then (read_once args) (λ xs. typed (rest xs)) old
      ∙ ap (λ (found : List Arg × Trace). run (typed (rest found.0)) found.1) first
      ∙ ap (λ r. run (typed (and_then r rest)) new) (sym again)
  union_runs any read old new h again first = absurd (false≢true h)
  union_runs none read old new h again first = absurd (false≢true h)
  union_runs (module_type m) read old new h again first = absurd (false≢true h)
  union_runs (instance c) read old new h again first = absurd (false≢true h)
  union_runs (class_object c) read old new h again first = absurd (false≢true h)
  union_runs (list x) read old new h again first = absurd (false≢true h)
  union_runs (dict k v) read old new h again first = absurd (false≢true h)
  union_runs (tuple xs) read old new h again first = absurd (false≢true h)
  union_runs (tuple_of x) read old new h again first = absurd (false≢true h)
  union_runs (callable ps r) read old new h again first = absurd (false≢true h)

-- ---- a walk

abbrev stood_met : Walk → CallOutcome → Stood
stood_met walk met = record { walk = walk; standing = standing_met met }

module _ (top : ℕ) (call : Call) (args : List Arg) where
  abbrev left_of : Stood → Step Called
  left_of stood = left top call args stood.walk stood.standing

  -- the next item of a union is called
  next_left : (before : List Ty) (items : Tys) (walk : Walk)
      → left_of (next_item before items walk)
      ≡ and_then (union_after (called_to (depth_left top walk) call) call before walk.memory args items) (resumed (depth_left top walk) call args walk.waiting)
  unfolding and_then
  next_left before nil walk = refl
  next_left before (cons item items) walk =
      let depth = depth_left top walk in
      let deeper = called_to depth call in
      let first = called_by deeper call walk.memory args item in
      let rest = λ (call_result : Called). items_called deeper call (before ++ (call_result.ty ∷ [])) call_result.memory args items in
      let join = λ (call_result : ItemsCalled). Done (joined call_result) in
      sym (ap (λ r. and_then r (resumed depth call args walk.waiting)) (then_then first rest join)
      ∙ then_then first (λ call_result. and_then (rest call_result) join) (resumed depth call args walk.waiting))

  -- a call gave a type
  pub given_left : (memory : Memory) (waiting : List Waiting) (ty : Ty) → classes_waiting waiting ≤ top
      → left top call args (record { memory = memory; waiting = waiting }) (gives ty) ≡ left_of (waiting_given memory waiting ty)
  given_left memory [] ty within = refl
  given_left memory (class_waits c ∷ waiting) ty within =
      let e : suc (top - suc (classes_waiting waiting)) ≡ top - classes_waiting waiting = omega (arith, within) in
      ap (λ depth. resumed depth call args waiting (record { ty = ty; memory = remembering memory c (gave ty) })) e
  given_left memory (union_waits before items ∷ waiting) ty within = sym (next_left (before ++ (ty ∷ [])) items (record { memory = memory; waiting = waiting }))

  -- a `__call__` was met
  pub begun_left : (walk : Walk) (c : Id) (bound : Ty) → classes_waiting walk.waiting < top
      → left top call args walk (meets c bound) ≡ left top call args (begun walk c) (calls bound)
  begun_left walk c bound within =
      let e : top - classes_waiting walk.waiting ≡ suc (top - suc (classes_waiting walk.waiting)) = omega (arith, within) in
      ap (λ depth. and_then (called_to depth call (remembering walk.memory c under_way) args bound) (λ call_result. resumed depth call args walk.waiting (call_given c call_result))) e

  module _ (walk : Walk) where
    abbrev depth : ℕ
    depth = depth_left top walk

    met_left : (met : CallOutcome) → and_then (met_called (called_to depth call) walk.memory args met) (resumed depth call args walk.waiting) ≡ left_of (stood_met walk met)
    unfolding and_then
    met_left (came ty) = refl
    met_left (met_new c bound) = then_then (called_to depth call (remembering walk.memory c under_way) args bound) (λ call_result. Done (call_given c call_result)) (resumed depth call args walk.waiting)

    other_left : (ty : Ty) (met : Step CallOutcome) → called_by (called_to depth call) call walk.memory args ty ≡ and_then met (met_called (called_to depth call) walk.memory args)
        → left top call args walk (calls ty) ≡ and_then (and_then met (λ found. Done (stood_met walk found))) left_of
    unfolding and_then
    other_left ty met is =
        ap (λ r. and_then r (resumed depth call args walk.waiting)) is
        ∙ then_then met (met_called (called_to depth call) walk.memory args) (resumed depth call args walk.waiting)
        ∙ (λ i. and_then met (λ found. met_left found i))
        ∙ sym (then_then met (λ found. Done (stood_met walk found)) left_of)

    abbrev step : Ty → Step Stood
    step ty = form_stepped call args walk ty (callee_form ty)

    -- one step of a walk
    stepped_left : IsRead args → (ty : Ty) → left top call args walk (calls ty) ≡ and_then (step ty) left_of
    unfolding and_then form_stepped
    stepped_left read (union items) =
        ap (λ r. and_then (and_then r (λ xs. union_after (called_to depth call) call [] walk.memory xs items)) (resumed depth call args walk.waiting)) read
        ∙ sym (next_left [] items walk)
    stepped_left read any = other_left any _ (form_is (called_to depth call) walk.memory args call any refl)
    stepped_left read none = other_left none _ (form_is (called_to depth call) walk.memory args call none refl)
    stepped_left read (module_type m) = other_left (module_type m) _ (form_is (called_to depth call) walk.memory args call (module_type m) refl)
    stepped_left read (instance c) = other_left (instance c) _ (form_is (called_to depth call) walk.memory args call (instance c) refl)
    stepped_left read (class_object c) = other_left (class_object c) _ (form_is (called_to depth call) walk.memory args call (class_object c) refl)
    stepped_left read (list x) = other_left (list x) _ (form_is (called_to depth call) walk.memory args call (list x) refl)
    stepped_left read (dict k v) = other_left (dict k v) _ (form_is (called_to depth call) walk.memory args call (dict k v) refl)
    stepped_left read (tuple xs) = other_left (tuple xs) _ (form_is (called_to depth call) walk.memory args call (tuple xs) refl)
    stepped_left read (tuple_of x) = other_left (tuple_of x) _ (form_is (called_to depth call) walk.memory args call (tuple_of x) refl)
    stepped_left read (callable ps r) = other_left (callable ps r) _ (form_is (called_to depth call) walk.memory args call (callable ps r) refl)

    pub stepped_runs : IsRead args → (ty : Ty) (stood : Stood) (old new : Trace) → run (step ty) old ≡ (stood, new)
        → run (left top call args walk (calls ty)) old ≡ run (left_of stood) new
    stepped_runs read ty stood old new first =
        ap (λ r. run r old) (stepped_left read ty)
        ∙ run_then (step ty) left_of old
        ∙ ap (λ (found : Stood × Trace). run (left_of found.0) found.1) first

module _ (call : Call) (args : List Arg) (walk : Walk) where
  form_runs : (ty : Ty) (form : CalleeForm) (met : CallOutcome) (old new : Trace) → run (form_met call walk.memory args ty form) old ≡ (met, new)
      → run (and_then (form_met call walk.memory args ty form) (λ found. Done (stood_met walk found))) old ≡ (stood_met walk met, new)
  form_runs ty form met old new first = after (form_met call walk.memory args ty form) (λ found. Done (stood_met walk found)) old new new met (stood_met walk met) first refl

  -- a step of what is no union
  pub other_runs : (ty : Ty) (met : CallOutcome) (old new : Trace) → is_union ty ≡ false → run (form_met call walk.memory args ty (callee_form ty)) old ≡ (met, new)
      → run (form_stepped call args walk ty (callee_form ty)) old ≡ (record { walk = walk; standing = standing_met met }, new)
  unfolding form_stepped
  other_runs (union items) met old new h first = absurd (false≢true (sym h))
  other_runs any met old new h first = form_runs any another_callee met old new first
  other_runs none met old new h first = form_runs none another_callee met old new first
  other_runs (module_type m) met old new h first = form_runs (module_type m) another_callee met old new first
  other_runs (instance c) met old new h first = form_runs (instance c) (an_instance c) met old new first
  other_runs (class_object c) met old new h first = form_runs (class_object c) another_callee met old new first
  other_runs (list x) met old new h first = form_runs (list x) another_callee met old new first
  other_runs (dict k v) met old new h first = form_runs (dict k v) another_callee met old new first
  other_runs (tuple xs) met old new h first = form_runs (tuple xs) another_callee met old new first
  other_runs (tuple_of x) met old new h first = form_runs (tuple_of x) another_callee met old new first
  other_runs (callable ps r) met old new h first = form_runs (callable ps r) another_callee met old new first

  -- a step of a union
  pub opened_is : (ty : Ty) → is_union ty ≡ true → form_stepped call args walk ty (callee_form ty) ≡ Done (opened ty walk)
  unfolding form_stepped
  opened_is (union items) h = refl
  opened_is any h = absurd (false≢true h)
  opened_is none h = absurd (false≢true h)
  opened_is (module_type m) h = absurd (false≢true h)
  opened_is (instance c) h = absurd (false≢true h)
  opened_is (class_object c) h = absurd (false≢true h)
  opened_is (list x) h = absurd (false≢true h)
  opened_is (dict k v) h = absurd (false≢true h)
  opened_is (tuple xs) h = absurd (false≢true h)
  opened_is (tuple_of x) h = absurd (false≢true h)
  opened_is (callable ps r) h = absurd (false≢true h)
