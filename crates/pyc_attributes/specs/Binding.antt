-- Members as they are read through an instance and through the class object (Python reference 3.13, "The standard type
-- hierarchy", instance methods and class methods).
use Rattle.std.specs.Prelude.{Bool, true, false, is_some, if◌then◌else◌}
use Rattle.pyc_class_ids.specs.Class.{builtin_of}
use Rattle.pyc_reading.specs.Answers.{MemberAnswer}
use Rattle.pyc_reading.specs.declared.answer.MemberKind.{MemberKind}
use Rattle.pyc_reading.specs.declared.answer.MemberKind.TheVariants as kind
use Rattle.pyc_type_forms.specs.Types.{Kind, Ty, Listed, any, callable, listed, param, no_param, plain}

-- whether an argument at its place fills a parameter of this kind
abbrev pub is_plain : Kind → Bool
is_plain (plain name) = true
is_plain _ = false

-- what is left of a row of parameters when the first is given, where an argument at its place fills that
abbrev pub later_params : Listed → Listed
later_params (param slot ty rest) = if is_plain slot.kind then rest else param slot ty rest
later_params no_param = no_param

-- a callable whose first parameter is given
abbrev pub without_first : Ty → Ty
without_first (callable (listed params) result) = callable (listed (later_params params)) result
without_first ty = ty

-- whether a member is one of a builtin class
abbrev pub is_of_builtin : MemberAnswer → Bool
is_of_builtin found = is_some (builtin_of found.class)

-- a member of this kind and type through an instance: a method is given the instance, or its class
abbrev pub bind_member : MemberKind → Ty → Ty
bind_member kind.Method ty = without_first ty
bind_member kind.ClassMethod ty = without_first ty
bind_member _ ty = ty

abbrev pub through_instance : MemberAnswer → Ty
through_instance found = if is_of_builtin found then found.ty else bind_member found.kind found.ty

-- a member of this kind and type through the class object: a class method is given the class, and a property is Any
abbrev pub bind_to_class : MemberKind → Ty → Ty
bind_to_class kind.ClassMethod ty = without_first ty
bind_to_class kind.Property ty = any
bind_to_class kind.SettableProperty ty = any
bind_to_class _ ty = ty

abbrev pub through_class : MemberAnswer → Ty
through_class found = if is_of_builtin found then any else bind_to_class found.kind found.ty
