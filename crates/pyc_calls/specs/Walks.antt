-- How a walk through calls stands: what is to be called next, and what waits for its type. So a call is gone through a
-- step at a time, however deep calls lie in one another.
use Rattle.std.specs.Prelude.{ℕ, suc, ◌+◌, ◌-◌, Bool, true, false, codes}
use Rattle.std.specs.Prelude.{List, [], ◌∷◌, ◌++◌, ◌≡◌, Option, None, Some, IfOk}
use Rattle.std.specs.declared.alloc.AllocError.{AllocError}
use Rattle.std.specs.declared.result.Result.{Result}
use Rattle.pyc_arguments.specs.Arguments.{Arg, read_once}
use Rattle.pyc_arguments.specs.Reporting.{Call}
use Rattle.pyc_attributes.specs.Binding.{through_instance}
use Rattle.pyc_calls.specs.Called.{
  infer_any_call,
  infer_given_call,
  report_refused,
  without_call,
  infer_plain_call,
  Called,
  Calls,
}
use Rattle.pyc_calls.specs.Called.{call_given, joined, called_by, items_called, called_to, typed}
use Rattle.pyc_calls.specs.Remembered.{Memory, Progress, fresh, under_way, gave, progress_of, remembering}
use Rattle.pyc_class_ids.specs.Class.{Id, builtin, user}
use Rattle.pyc_obligations.specs.Asking.{ask_member}
use Rattle.pyc_reading.specs.Answers.{MemberAnswer}
use Rattle.pyc_reading.specs.Traces.{Step, Trace, Grown, run}
use Rattle.pyc_reading.specs.Readings.{Done, and_then, ◌>>=◌}
use Rattle.pyc_type_forms.specs.Types.{Ty, Tys, instance, union, nil, cons}
use Rattle.pyc_type_forms.specs.Unions.{union_of}

-- ---- one class

-- what a call of an instance of a class comes to: a type, or a `__call__` that was not met before, by its class and its
-- type through an instance
pub data CallOutcome : Type 0 where
  came : Ty → CallOutcome
  met_new : Id → Ty → CallOutcome

unfoldable pub coming : Step Ty → Step CallOutcome
coming call = and_then call (λ ty. Done (came ty))

-- the `__call__` of a class, by how far it is
abbrev pub progress_met : List Arg → Id → Progress → MemberAnswer → Step CallOutcome
progress_met args c fresh found = Done (met_new c (through_instance found))
progress_met args c under_way found = coming (infer_any_call args)
progress_met args c (gave ty) found = coming (infer_given_call args ty)

-- an instance of a class of a source, by its `__call__`
abbrev pub member_met : Call → List Arg → Id → Progress → Option MemberAnswer → Step CallOutcome
member_met call args c progress (Some found) = progress_met args c progress found
member_met call args c progress None = coming (without_call call args c)

unfoldable pub source_met : Call → Memory → List Arg → Id → Step CallOutcome
source_met call memory args c =
    and_then (ask_member c (codes "__call__")) (member_met call args c (progress_of memory c))

-- an instance of a class
abbrev pub instance_met : Call → Memory → List Arg → Id → Step CallOutcome
instance_met call memory args (builtin c) = coming (report_refused call args (instance (builtin c)))
instance_met call memory args (user m x) = source_met call memory args (user m x)

-- whether a `__call__` that is met is new
abbrev pub IsNew : Memory → CallOutcome → Type 0
IsNew memory (came ty) = Unit {0}
IsNew memory (met_new c bound) = progress_of memory c ≡ fresh

-- what is called, by what it calls in turn
pub data CalleeForm : Type 0 where
  an_instance : Id → CalleeForm
  a_union : Tys → CalleeForm
  another_callee : CalleeForm

abbrev pub callee_form : Ty → CalleeForm
callee_form (instance c) = an_instance c
callee_form (union items) = a_union items
callee_form ty = another_callee

abbrev pub is_union : Ty → Bool
is_union (union items) = true
is_union ty = false

-- what a call of something comes to that is no union
abbrev pub form_met : Call → Memory → List Arg → Ty → CalleeForm → Step CallOutcome
form_met call memory args ty (an_instance c) = instance_met call memory args c
form_met call memory args ty form = coming (infer_plain_call call args ty)

-- ---- a walk

-- what waits for the type of a call
pub data Waiting : Type 0 where
  -- the `__call__` of a class, which is under way
  class_waits : Id → Waiting
  -- a union: the types of calls of the items before, and the items after
  union_waits : List Ty → Tys → Waiting

-- what is remembered, and what waits, the innermost first
pub record Walk : Type 0 where
  pub memory : Memory
  pub waiting : List Waiting

-- how a walk stands: something of a type is to be called, a call gave a type, a `__call__` is met that was not met
-- before, or the walk is at its end
pub data Standing : Type 0 where
  calls : Ty → Standing
  gives : Ty → Standing
  meets : Id → Ty → Standing
  ends : Ty → Standing

pub record Stood : Type 0 where
  pub walk : Walk
  pub standing : Standing

-- whether a `__call__` is new that a walk meets
abbrev pub IsNewStanding : Memory → Standing → Type 0
IsNewStanding memory (meets c bound) = progress_of memory c ≡ fresh
IsNewStanding memory standing = Unit {0}

abbrev pub standing_met : CallOutcome → Standing
standing_met (came ty) = gives ty
standing_met (met_new c bound) = meets c bound

-- after these types, the next item of a union is to be called, if there is one
abbrev pub next_item : List Ty → Tys → Walk → Stood
next_item before nil walk = record { walk = walk; standing = gives (union_of before) }
next_item before (cons item items) walk =
    record {
      walk = record { memory = walk.memory; waiting = union_waits before items ∷ walk.waiting };
      standing = calls item;
    }

-- the first item of a union is to be called; what is no union has no item
abbrev pub opened : Ty → Walk → Stood
opened (union items) walk = next_item [] items walk
opened ty walk = next_item [] nil walk

-- a call gave a type: what waits for it goes on
abbrev pub waiting_given : Memory → List Waiting → Ty → Stood
waiting_given memory [] ty = record { walk = record { memory = memory; waiting = [] }; standing = ends ty }
waiting_given memory (class_waits c ∷ waiting) ty =
    record {
      walk = record { memory = remembering memory c (gave ty); waiting = waiting };
      standing = gives ty;
    }
waiting_given memory (union_waits before items ∷ waiting) ty =
    next_item (before ++ (ty ∷ [])) items (record { memory = memory; waiting = waiting })

-- something of a type is called, by its form, with arguments that were read
unfoldable pub form_stepped : Call → List Arg → Walk → Ty → CalleeForm → Step Stood
form_stepped call args walk ty (a_union items) = Done (next_item [] items walk)
form_stepped call args walk ty form =
    and_then (form_met call walk.memory args ty form) (λ met.
    Done (record { walk = walk; standing = standing_met met }))

-- after a `__call__` was met, what it is through an instance is to be called
abbrev pub begun : Walk → Id → Walk
begun walk c =
    record { memory = remembering walk.memory c under_way; waiting = class_waits c ∷ walk.waiting }

-- ---- what is left of a walk

-- the items of a union are called after these types, and their union is the type
abbrev pub union_after : Calls → Call → List Ty → Memory → List Arg → Tys → Step Called
union_after deeper call before memory args items = do
  call_result ← items_called deeper call before memory args items
  Done (joined call_result)

-- how many classes wait
abbrev pub classes_waiting : List Waiting → ℕ
classes_waiting [] = 0
classes_waiting (class_waits c ∷ waiting) = suc (classes_waiting waiting)
classes_waiting (union_waits before items ∷ waiting) = classes_waiting waiting

-- after a call, what waits for it goes on, where the `__call__` of so many classes may lie in it
abbrev pub resumed : ℕ → Call → List Arg → List Waiting → Called → Step Called
resumed depth call args [] call_result = Done call_result
resumed depth call args (class_waits c ∷ waiting) call_result = resumed (suc depth) call args waiting
    (call_given c call_result)
resumed depth call args (union_waits before items ∷ waiting) call_result = do
  found ← union_after (called_to depth call) call (before ++ (call_result.ty ∷ [])) call_result.memory args items
  resumed depth call args waiting found

-- how many may lie in the call at hand, where so many may in the first one
abbrev pub depth_left : ℕ → Walk → ℕ
depth_left top walk = top - classes_waiting walk.waiting

-- what is left of a walk at whose beginning the `__call__` of so many classes may lie in one another
abbrev pub left : ℕ → Call → List Arg → Walk → Standing → Step Called
left top call args walk (calls ty) = do
  call_result ← called_by (called_to (depth_left top walk) call) call walk.memory args ty
  resumed (depth_left top walk) call args walk.waiting call_result
left top call args walk (gives ty) =
    resumed (depth_left top walk) call args walk.waiting (record { ty = ty; memory = walk.memory })
left top call args walk (meets c bound) = do
  call_result ← called_to (depth_left top walk) call (remembering walk.memory c under_way) args bound
  resumed (depth_left top walk) call args walk.waiting (call_given c call_result)
left top call args walk (ends ty) = Done (record { ty = ty; memory = walk.memory })

-- something of a type is called, where the `__call__` of so many classes may lie in the call
abbrev pub called_in : ℕ → Call → Calls
called_in depth call = called_by (called_to depth call) call

-- what is left where a call before any union came to this
abbrev pub first_left : ℕ → Call → List Arg → Memory → CallOutcome → Step Ty
first_left depth call args memory (came ty) = Done ty
first_left depth call args memory (met_new c bound) =
    typed (called_to depth call (remembering memory c under_way) args bound)

-- what is left where a call of an instance of a class came to this
abbrev pub left_met : ℕ → Call → List Arg → Walk → CallOutcome → Step Called
left_met top call args walk (came ty) = Done (record { ty = ty; memory = walk.memory })
left_met top call args walk (met_new c bound) = left top call args walk (meets c bound)

-- arguments that were read: to read them once more asks and reports nothing
abbrev pub IsRead : List Arg → Type 0
IsRead args = read_once args ≡ Done args

-- a call went on with a reading: what is left to do after it comes to the same as all before
pub record GoesOn {X A : Type 0} (left : X → Step A) (whole : Step A) (old : Trace) (result : Result X AllocError)
    (new : Trace) : Type 0 where
  pub done : IfOk result (λ x. run (left x) new ≡ run whole old)
  pub grown : Grown old new

-- ---- how much is left before a class is met

abbrev mutual
  -- how much a type weighs that is called: for a union its items
  pub weight : Ty → ℕ
  weight (union items) = suc (row_weight items)
  weight ty = 0

  pub row_weight : Tys → ℕ
  row_weight nil = 0
  row_weight (cons item items) = suc (suc (weight item)) + row_weight items

abbrev pub waiting_weight : List Waiting → ℕ
waiting_weight [] = 0
waiting_weight (class_waits c ∷ waiting) = suc (waiting_weight waiting)
waiting_weight (union_waits before items ∷ waiting) = suc (row_weight items + waiting_weight waiting)

abbrev pub standing_weight : Standing → ℕ
standing_weight (calls ty) = suc (suc (weight ty))
standing_weight (gives ty) = 1
standing_weight (meets c bound) = 0
standing_weight (ends ty) = 0

abbrev pub stood_weight : Walk → Standing → ℕ
stood_weight walk standing = standing_weight standing + waiting_weight walk.waiting
