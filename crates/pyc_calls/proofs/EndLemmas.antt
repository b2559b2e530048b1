-- What the steps of a walk end in, whatever the answers: a `__call__` that is met is new, and there is less to do.
use Rattle.std.proofs.Common.{◌≡◌, ◌<◌, ◌≤◌, ◌+◌, suc, List, [], ◌∷◌, ◌++◌, Option, None, Some, refl, subst, codes, arith}
use Rattle.pyc_arguments.specs.Arguments.{Arg}
use Rattle.pyc_arguments.specs.Reporting.{Call}
use Rattle.pyc_calls.specs.Called.{infer_plain_call, infer_any_call, infer_given_call, without_call, report_refused}
use Rattle.pyc_calls.specs.Remembered.{Memory, Progress, fresh, under_way, gave, progress_of}
use Rattle.pyc_calls.specs.Walks.{CallOutcome, came, met_new, coming, progress_met, member_met, source_met, instance_met, IsNew, IsNewStanding, callee_form, CalleeForm, an_instance, a_union, another_callee, form_met, Waiting, class_waits, union_waits, Walk, calls, gives, Stood, standing_met, next_item, waiting_given, form_stepped, row_weight, waiting_weight, stood_weight}
use Rattle.pyc_class_ids.specs.Class.{Id, builtin, user}
use Rattle.pyc_obligations.specs.Asking.{ask_member}
use Rattle.pyc_reading.specs.Answers.{Answer, MemberAnswer}
use Rattle.pyc_reading.specs.Traces.{Step, Trace, run, noted, kept, settled}
use Rattle.pyc_reading.specs.Readings.{Done, Ask, Report, Require, and_then}
use Rattle.pyc_report.specs.Message.{diagnostic_message}
use Rattle.pyc_type_forms.specs.Types.{Ty, Tys, any, none, module_type, instance, class_object, list, dict, tuple, tuple_of, union, callable, nil, cons}

-- whatever the answers, a reading ends so
abbrev pub Ends : {A : Type 0} → (A → Type 0) → Step A → Type 0
Ends holds (Done a) = holds a
Ends holds (Ask key go) = (answer : Answer) → Ends holds (go answer)
Ends holds (Report diagnostic rest) = Ends holds rest
Ends holds (Require row rest) = Ends holds rest

then_ends : {A B : Type 0} (holds : B → Type 0) (r : Step A) (f : A → Step B) → ((a : A) → Ends holds (f a)) → Ends holds (and_then r f)
unfolding and_then
then_ends holds (Done a) f h = h a
then_ends holds (Ask key go) f h = λ answer. then_ends holds (go answer) f h
then_ends holds (Report diagnostic rest) f h = then_ends holds rest f h
then_ends holds (Require row rest) f h = then_ends holds rest f h

-- where one reading ends so, one after it ends so
ends_then : {A B : Type 0} (holds : A → Type 0) (other : B → Type 0) (r : Step A) (f : A → Step B) → Ends holds r → ((a : A) → holds a → Ends other (f a)) → Ends other (and_then r f)
unfolding and_then
ends_then holds other (Done a) f e h = h a e
ends_then holds other (Ask key go) f e h = λ answer. ends_then holds other (go answer) f (e answer) h
ends_then holds other (Report diagnostic rest) f e h = ends_then holds other rest f e h
ends_then holds other (Require row rest) f e h = ends_then holds other rest f e h

-- what it is performed to holds
run_ends : {A : Type 0} (holds : A → Type 0) (r : Step A) (trace : Trace) → Ends holds r → holds (run r trace).0
run_ends holds (Done a) trace e = e
run_ends holds (Ask key go) trace e = run_ends holds (go (trace.answers key)) (noted trace key) (e (trace.answers key))
run_ends holds (Report diagnostic rest) trace e = run_ends holds rest (kept trace (diagnostic_message diagnostic ∷ [])) e
run_ends holds (Require row rest) trace e = run_ends holds rest (settled trace row) e

ends_at : {A : Type 0} (holds : A → Type 0) (r : Step A) (old new : Trace) (a : A) → Ends holds r → run r old ≡ (a, new) → holds a
ends_at {A} holds r old new a e is = subst (λ (found : A × Trace). holds found.0) is (run_ends holds r old e)

-- ---- a `__call__` that is met is new

module _ (memory : Memory) where
  coming_new : (call : Step Ty) → Ends (IsNew memory) (coming call)
  unfolding coming
  coming_new call = then_ends (IsNew memory) call (λ ty. Done (came ty)) (λ ty. tt)

  progress_new : (args : List Arg) (c : Id) (progress : Progress) (found : MemberAnswer) → progress_of memory c ≡ progress → Ends (IsNew memory) (progress_met args c progress found)
  progress_new args c fresh found is = is
  progress_new args c under_way found is = coming_new (infer_any_call args)
  progress_new args c (gave ty) found is = coming_new (infer_given_call args ty)

  member_new : (call : Call) (args : List Arg) (c : Id) (found : Option MemberAnswer) → Ends (IsNew memory) (member_met call args c (progress_of memory c) found)
  member_new call args c (Some found) = progress_new args c (progress_of memory c) found refl
  member_new call args c None = coming_new (without_call call args c)

  instance_new : (call : Call) (args : List Arg) (c : Id) → Ends (IsNew memory) (instance_met call memory args c)
  unfolding source_met
  instance_new call args (builtin c) = coming_new (report_refused call args (instance (builtin c)))
  instance_new call args (user m x) =
      then_ends (IsNew memory) (ask_member (user m x) (codes "__call__")) (member_met call args (user m x) (progress_of memory (user m x))) (member_new call args (user m x))

  form_new : (call : Call) (args : List Arg) (ty : Ty) (form : CalleeForm) → Ends (IsNew memory) (form_met call memory args ty form)
  form_new call args ty (an_instance c) = instance_new call args c
  form_new call args ty (a_union items) = coming_new (infer_plain_call call args ty)
  form_new call args ty another_callee = coming_new (infer_plain_call call args ty)

  pub met_is_new : (call : Call) (args : List Arg) (ty : Ty) (old new : Trace) (met : CallOutcome) → run (form_met call memory args ty (callee_form ty)) old ≡ (met, new) → IsNew memory met
  met_is_new call args ty old new met is = ends_at (IsNew memory) (form_met call memory args ty (callee_form ty)) old new met (form_new call args ty (callee_form ty)) is

-- ---- there is less to do

next_weight : (before : List Ty) (items : Tys) (walk : Walk)
    → stood_weight (next_item before items walk).walk (next_item before items walk).standing ≤ suc (row_weight items + waiting_weight walk.waiting)
next_weight before nil walk = omega arith
next_weight before (cons item items) walk = omega arith

pub given_weight : (memory : Memory) (waiting : List Waiting) (ty : Ty)
    → stood_weight (waiting_given memory waiting ty).walk (waiting_given memory waiting ty).standing < stood_weight (record { memory = memory; waiting = waiting }) (gives ty)
given_weight memory [] ty = omega arith
given_weight memory (class_waits c ∷ waiting) ty = omega arith
given_weight memory (union_waits before items ∷ waiting) ty =
    omega (arith, next_weight (before ++ (ty ∷ [])) items (record { memory = memory; waiting = waiting }))

next_new : (before : List Ty) (items : Tys) (walk : Walk) → IsNewStanding (next_item before items walk).walk.memory (next_item before items walk).standing
next_new before nil walk = tt
next_new before (cons item items) walk = tt

pub given_new : (memory : Memory) (waiting : List Waiting) (ty : Ty) → IsNewStanding (waiting_given memory waiting ty).walk.memory (waiting_given memory waiting ty).standing
given_new memory [] ty = tt
given_new memory (class_waits c ∷ waiting) ty = tt
given_new memory (union_waits before items ∷ waiting) ty = next_new (before ++ (ty ∷ [])) items (record { memory = memory; waiting = waiting })

-- what holds of a walk after a step: what it met is new, and less is left to do than before
pub record Stepped (walk : Walk) (ty : Ty) (stood : Stood) : Type 0 where
  pub new : IsNewStanding stood.walk.memory stood.standing
  pub less : stood_weight stood.walk stood.standing < stood_weight walk (calls ty)

module _ (call : Call) (args : List Arg) (walk : Walk) where
  met_stepped : (ty : Ty) (met : CallOutcome) → IsNew walk.memory met → Stepped walk ty (record { walk = walk; standing = standing_met met })
  met_stepped ty (came given) new = record { new = tt; less = omega arith }
  met_stepped ty (met_new c bound) new = record { new = new; less = omega arith }

  other_stepped : (ty : Ty) (form : CalleeForm)
      → Ends (Stepped walk ty) (and_then (form_met call walk.memory args ty form) (λ met. Done (record { walk = walk; standing = standing_met met })))
  other_stepped ty form =
      ends_then (IsNew walk.memory) (Stepped walk ty) (form_met call walk.memory args ty form) (λ met. Done (record { walk = walk; standing = standing_met met })) (form_new walk.memory call args ty form) (met_stepped ty)

  step_ends : (ty : Ty) → Ends (Stepped walk ty) (form_stepped call args walk ty (callee_form ty))
  unfolding form_stepped
  step_ends (union items) = record { new = next_new [] items walk; less = omega (arith, next_weight [] items walk) }
  step_ends any = other_stepped any another_callee
  step_ends none = other_stepped none another_callee
  step_ends (module_type m) = other_stepped (module_type m) another_callee
  step_ends (instance c) = other_stepped (instance c) (an_instance c)
  step_ends (class_object c) = other_stepped (class_object c) another_callee
  step_ends (list x) = other_stepped (list x) another_callee
  step_ends (dict k v) = other_stepped (dict k v) another_callee
  step_ends (tuple xs) = other_stepped (tuple xs) another_callee
  step_ends (tuple_of x) = other_stepped (tuple_of x) another_callee
  step_ends (callable ps r) = other_stepped (callable ps r) another_callee

  pub is_stepped : (ty : Ty) (stood : Stood) (old new : Trace) → run (form_stepped call args walk ty (callee_form ty)) old ≡ (stood, new) → Stepped walk ty stood
  is_stepped ty stood old new is = ends_at (Stepped walk ty) (form_stepped call args walk ty (callee_form ty)) old new stood (step_ends ty) is
