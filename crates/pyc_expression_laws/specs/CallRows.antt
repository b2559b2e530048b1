-- What a call asks before its arguments (Python reference 3.13, "Calls", "Basic customization" and "Emulating callable
-- objects"; typing specification, "Constructors").
use Rattle.std.specs.Prelude.{◌≡◌, ℕ, codes, if◌then◌else◌, List, [], ◌∷◌, ◌++◌, Option, None, Some}
use Rattle.pyc_arguments.specs.Arguments.{Arg, all_read}
use Rattle.pyc_arguments.specs.Reporting.{Call}
use Rattle.pyc_calls.specs.Called.{Calls, by_progress, infer_class_call, called_by, infer_signature_call}
use Rattle.pyc_calls.specs.Constructors.{constructor}
use Rattle.pyc_calls.specs.Remembered.{Memory, progress_of}
use Rattle.pyc_class_ids.specs.Class.{Id, builtin, user}
use Rattle.pyc_expression_laws.specs.Rows.{Answers, class_key, member_key, member_at, has_no_order, has_member}
use Rattle.pyc_reading.specs.Answers.{MemberAnswer}
use Rattle.pyc_reading.specs.Keys.{Key}
use Rattle.pyc_reading.specs.Readings.{asked, result_of}
use Rattle.pyc_type_forms.specs.Instances.{instance_of}
use Rattle.pyc_type_forms.specs.Types.{instance}

-- ---- classes

-- a builtin class asks nothing; a class of a source asks its order; where that is known its `__new__`; where that is
-- absent its `__init__`
abbrev pub constructor_keys : Answers → Id → List Key
constructor_keys answers (builtin c) = []
constructor_keys answers (user m x) =
    class_key (user m x) ∷
    (if has_no_order answers (user m x) then []
    else
    member_key (user m x) (codes "__new__") ∷
    (if has_member answers (user m x) (codes "__new__") then [] else member_key (user m x) (codes "__init__") ∷ []))

-- the law of what a class takes that is called
abbrev pub ConstructorReads : Type 0
ConstructorReads = (answers : Answers) (c : Id) → asked answers (constructor c) ≡ constructor_keys answers c

-- the law of calls of classes: then the arguments are matched with what the class takes
abbrev pub ClassCallReads : Type 0
ClassCallReads =
    (answers : Answers) (call : Call) (args : List Arg) (c : Id)
    → asked answers (infer_class_call call args c)
    ≡ constructor_keys answers c
    ++ asked answers (infer_signature_call call args (result_of answers (constructor c)) (instance_of c))

-- ---- instances

-- after `__call__` of a class was asked: where it is there, it is called; where it is absent, the order of the class is
-- asked, and the arguments are read
abbrev pub after_call_keys : Answers → Calls → Memory → List Arg → Id → Option MemberAnswer → List Key
after_call_keys answers deeper memory args c (Some found) =
    asked answers (by_progress deeper memory args c (progress_of memory c) found)
after_call_keys answers deeper memory args c None = class_key c ∷ asked answers (all_read args)

-- an instance of a class of a source: its `__call__`, and then what that says
abbrev pub instance_call_keys : Answers → Calls → Memory → List Arg → Id → List Key
instance_call_keys answers deeper memory args c =
    member_key c (codes "__call__") ∷
    after_call_keys answers deeper memory args c (member_at answers c (codes "__call__"))

-- the law of calls of instances of classes of sources
abbrev pub InstanceCallReads : Type 0
InstanceCallReads =
    (answers : Answers) (deeper : Calls) (call : Call) (memory : Memory) (args : List Arg) (m : List (List ℕ))
    (x : List ℕ)
    → asked answers (called_by deeper call memory args (instance (user m x)))
    ≡ instance_call_keys answers deeper memory args (user m x)
