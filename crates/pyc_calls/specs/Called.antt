-- The type of a call (Python reference 3.13, "Calls" and "Emulating callable objects"; typing specification,
-- "Callables", "Constructors" and "Union types").
use Rattle.std.specs.Prelude.{ℕ, zero, suc, ◌^◌, Bool, true, false, codes, List, [], ◌∷◌, ◌++◌, map, Option, None, Some}
use Rattle.pyc_arguments.specs.Arguments.{Arg, Reads, all_read, read_once, unread}
use Rattle.pyc_arguments.specs.Matched.{matched}
use Rattle.pyc_arguments.specs.Reporting.{Call, CalleeName}
use Rattle.pyc_ast.specs.declared.position.Position.{Position}
use Rattle.pyc_ast.specs.Exprs.{Argument}
use Rattle.pyc_attributes.specs.Binding.{through_instance}
use Rattle.pyc_calls.specs.Constructors.{constructor}
use Rattle.pyc_calls.specs.Remembered.{Memory, Progress, fresh, under_way, gave, nothing_met, progress_of, remembering}
use Rattle.pyc_class_ids.specs.Class.{Id, builtin, user}
use Rattle.pyc_messages.specs.Calls as message
use Rattle.pyc_obligations.specs.Asking.{ask_member, is_unknown_class}
use Rattle.pyc_reading.specs.Answers.{MemberAnswer}
use Rattle.pyc_reading.specs.Traces.{Step}
use Rattle.pyc_reading.specs.Readings.{Done, Report, and_then, ◌>>=◌}
use Rattle.pyc_report.specs.Message.{Diagnostic}
use Rattle.pyc_type_forms.specs.Instances.{instance_of}
use Rattle.pyc_type_forms.specs.Text.{text_of}
use Rattle.pyc_type_forms.specs.Types.{Ty, Tys, Params, any, instance, class_object}
use Rattle.pyc_type_forms.specs.Types.{union, callable, nil, cons}
use Rattle.pyc_type_forms.specs.Unions.{union_of}

-- ---- what cannot be called

-- a call of which this is reported is Any
abbrev pub report_call_error : Diagnostic → Step Ty
report_call_error reported = Report reported (Done any)

-- it is reported that a value of a type cannot be called
unfoldable pub not_callable : Call → Ty → Step Ty
not_callable call ty = report_call_error (message.not_callable call.at (text_of ty))

-- ---- what needs no further call

-- arguments are read, and the call is of this type
unfoldable pub infer_given_call : List Arg → Ty → Step Ty
infer_given_call args ty = and_then (all_read args) (λ u. Done ty)

-- nothing is known of what is called
abbrev pub infer_any_call : List Arg → Step Ty
infer_any_call args = infer_given_call args any

-- a value of this type cannot be called
unfoldable pub report_refused : Call → List Arg → Ty → Step Ty
report_refused call args ty = and_then (all_read args) (λ u. not_callable call ty)

-- what takes these parameters and gives this is called
unfoldable pub infer_signature_call : Call → List Arg → Params → Ty → Step Ty
infer_signature_call call args params given = and_then (matched call params args) (λ u. Done given)

-- a class is called
unfoldable pub infer_class_call : Call → List Arg → Id → Step Ty
infer_class_call call args c = and_then (constructor c) (λ params. infer_signature_call call args params
    (instance_of c))

-- what is no union and no instance of a class is called
abbrev pub infer_plain_call : Call → List Arg → Ty → Step Ty
infer_plain_call call args any = infer_any_call args
infer_plain_call call args (class_object c) = infer_class_call call args c
infer_plain_call call args (callable params given) = infer_signature_call call args params given
infer_plain_call call args ty = report_refused call args ty

-- an instance of a class without `__call__`, by whether the order of the class is not known
abbrev pub report_refused_unless : Bool → Call → List Arg → Id → Step Ty
report_refused_unless true call args c = infer_any_call args
report_refused_unless false call args c = report_refused call args (instance c)

unfoldable pub without_call : Call → List Arg → Id → Step Ty
without_call call args c = and_then (is_unknown_class c) (λ is_unknown. report_refused_unless is_unknown call args c)

-- ---- what calls something else in turn

-- the type of a call, and what is remembered after it
pub record Called : Type 0 where
  pub ty : Ty
  pub memory : Memory

-- how something of a type is called, with what is remembered and with these arguments
abbrev pub Calls : Type 0
Calls = Memory → List Arg → Ty → Step Called

-- a call after which the same is remembered
unfoldable pub remembering_same : Memory → Step Ty → Step Called
remembering_same memory call = and_then call (λ ty. Done (record { ty = ty; memory = memory }))

-- after the `__call__` of a class gave this
abbrev pub call_given : Id → Called → Called
call_given c call_result = record {
  ty = call_result.ty;
  memory = remembering call_result.memory c
      (gave call_result.ty);
}

-- the `__call__` of a class is called
unfoldable pub infer_member_call : Calls → Memory → List Arg → Id → MemberAnswer → Step Called
infer_member_call deeper memory args c found = do
  call_result ← deeper (remembering memory c under_way) args (through_instance found)
  Done (call_given c call_result)

-- the `__call__` of a class is called, by how far the call of it is: one that comes back to itself is Any
abbrev pub by_progress : Calls → Memory → List Arg → Id → Progress → MemberAnswer → Step Called
by_progress deeper memory args c fresh found = infer_member_call deeper memory args c found
by_progress deeper memory args c under_way found = remembering_same memory (infer_any_call args)
by_progress deeper memory args c (gave ty) found = remembering_same memory (infer_given_call args ty)

-- an instance of a class of a source, by its `__call__`
abbrev pub by_member : Calls → Call → Memory → List Arg → Id → Progress → Option MemberAnswer → Step Called
by_member deeper call memory args c progress (Some found) = by_progress deeper memory args c progress found
by_member deeper call memory args c progress None = remembering_same memory (without_call call args c)

unfoldable pub source_called : Calls → Call → Memory → List Arg → Id → Step Called
source_called deeper call memory args c =
    and_then (ask_member c (codes "__call__")) (by_member deeper call memory args c (progress_of memory c))

-- an instance of a class is called
abbrev pub instance_called : Calls → Call → Memory → List Arg → Id → Step Called
instance_called deeper call memory args (builtin c) =
    remembering_same memory (report_refused call args (instance (builtin c)))
instance_called deeper call memory args (user m x) = source_called deeper call memory args (user m x)

-- the types of calls of items, and what is remembered after them
pub record ItemsCalled : Type 0 where
  pub types : List Ty
  pub memory : Memory

-- the union of the types of calls of items
abbrev pub joined : ItemsCalled → Called
joined call_result = record { ty = union_of call_result.types; memory = call_result.memory }

abbrev mutual
  -- something of a type is called: of a union each item, with arguments that are read once
  pub called_by : Calls → Call → Memory → List Arg → Ty → Step Called
  called_by deeper call memory args (instance c) = instance_called deeper call memory args c
  called_by deeper call memory args (union items) = do
    read ← read_once args
    call_result ← items_called deeper call [] memory read items
    Done (joined call_result)
  called_by deeper call memory args ty = remembering_same memory (infer_plain_call call args ty)

  -- after these types, each item of a union is called in turn
  pub items_called : Calls → Call → List Ty → Memory → List Arg → Tys → Step ItemsCalled
  items_called deeper call before memory args nil = Done (record { types = before; memory = memory })
  items_called deeper call before memory args (cons item items) = do
    call_result ← called_by deeper call memory args item
    items_called deeper call (before ++ (call_result.ty ∷ [])) call_result.memory args items

-- ---- the whole

-- something of a type is called, and within that at most `depth` calls lie one in another; a deeper one is Any
abbrev pub called_to : ℕ → Call → Calls
called_to zero call memory args ty = remembering_same memory (infer_any_call args)
called_to (suc depth) call memory args ty = called_by (called_to depth call) call memory args ty

-- more than there are classes in the memory of a machine: a reading ends, and so it has some depth
unfoldable pub most_calls : ℕ
most_calls = 2 ^ 64

-- a call, by its type alone
abbrev pub typed : Step Called → Step Ty
typed walk = and_then walk (λ call_result. Done call_result.ty)

-- something of a type is called with arguments
unfoldable pub call_result : Call → List Arg → Ty → Step Ty
call_result call args callee = typed (called_to most_calls call nothing_met args callee)

-- a call that begins at a position, of something that messages show so, of this type, with arguments that are to be
-- read: its type
abbrev pub call : Reads → CalleeName → Position → List Argument → Ty → Step Ty
call read shown at arguments callee = call_result (record { at = at; shown = shown }) (map (unread read) arguments)
    callee
