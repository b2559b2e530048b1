-- What a class takes that is called (Python reference 3.13, "Basic customization", `object.__new__` and
-- `object.__init__`; typing specification, "Constructors").
use Rattle.std.specs.Prelude.{Bool, codes, false, true, if◌then◌else◌, List, [], ◌∷◌, Option, None, Some}
use Rattle.pyc_attributes.specs.Binding.{through_instance}
use Rattle.pyc_calls.specs.declared.constructors.FirstInitializer.{FirstInitializer}
use Rattle.pyc_calls.specs.declared.constructors.FirstInitializer.TheVariants as first
use Rattle.pyc_class_ids.specs.declared.builtin_class.BuiltinClass.{BuiltinClass}
use Rattle.pyc_class_ids.specs.declared.builtin_class.BuiltinClass.TheVariants as class
use Rattle.pyc_class_ids.specs.Class.{Id, builtin, user, same_class}
use Rattle.pyc_class_ids.specs.Mro.{Mro, is_unknown}
use Rattle.pyc_obligations.specs.Asking.{ask_member}
use Rattle.pyc_reading.specs.Owing.{order_in}
use Rattle.pyc_reading.specs.Answers.{MemberAnswer}
use Rattle.pyc_reading.specs.Traces.{Step}
use Rattle.pyc_reading.specs.Keys as key
use Rattle.pyc_reading.specs.Readings.{Done, Ask, and_then}
use Rattle.pyc_type_forms.specs.Types.{Ty, Params, dots, listed, no_param, callable}

-- what something of a type takes that is called: any arguments, where it is no callable
abbrev pub params_in : Ty → Params
params_in (callable params result) = params
params_in _ = dots

-- no arguments
abbrev pub no_params : Params
no_params = listed no_param

-- `object` takes no arguments, and other builtin classes any
abbrev pub builtin_constructor : BuiltinClass → Params
builtin_constructor class.Object = no_params
builtin_constructor _ = dots

-- whether a class declares a member
abbrev pub is_declared_by : Id → Option MemberAnswer → Bool
is_declared_by c (Some found) = same_class c found.class
is_declared_by c None = false

-- what a member takes that is called through an instance, if it is there
abbrev pub bound_params : Option MemberAnswer → Params
bound_params (Some found) = params_in (through_instance found)
bound_params None = no_params

-- whether a class counts as having an `__init__` of its own: each builtin class but `object`
abbrev pub has_own_initializer : Id → Bool
has_own_initializer (builtin class.Object) = false
has_own_initializer (builtin c) = true
has_own_initializer (user m x) = false

-- which `__init__` comes first along an order: the one that is found, that of a builtin class, or none
abbrev pub first_initializer : List Id → Option MemberAnswer → FirstInitializer
first_initializer [] found = first.Absent
first_initializer (c ∷ order) found =
    if is_declared_by c found then first.Found
    else if has_own_initializer c then first.Builtin
    else first_initializer order found

-- what it takes
abbrev pub initializer_params : FirstInitializer → Option MemberAnswer → Params
initializer_params first.Found found = bound_params found
initializer_params first.Builtin found = dots
initializer_params first.Absent found = no_params

-- what the first `__init__` along an order takes, where this is the one that is found
abbrev pub initializer : List Id → Option MemberAnswer → Params
initializer order found = initializer_params (first_initializer order found) found

-- a class without a `__new__`
unfoldable pub constructor_by_initializer : Id → Mro → Step Params
constructor_by_initializer c order =
    and_then (ask_member c (codes "__init__")) (λ found. Done (initializer order.classes found))

-- a class with a `__new__` takes any arguments
abbrev pub without_new : Id → Mro → Option MemberAnswer → Step Params
without_new c order (Some found) = Done dots
without_new c order None = constructor_by_initializer c order

unfoldable pub constructor_by_order : Id → Mro → Step Params
constructor_by_order c order = and_then (ask_member c (codes "__new__")) (without_new c order)

-- a class whose order is not known takes any arguments
abbrev pub if_known : Id → Mro → Step Params
if_known c order = if is_unknown order then Done dots else constructor_by_order c order

-- what a class of a source takes
abbrev pub source_constructor : Id → Step Params
source_constructor c = Ask (key.class c) (λ answer. if_known c (order_in answer))

-- what a class takes that is called
abbrev pub constructor : Id → Step Params
constructor (builtin c) = Done (builtin_constructor c)
constructor (user m x) = source_constructor (user m x)
