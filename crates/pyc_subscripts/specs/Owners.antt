-- What a subscript and an iteration go by (Python reference 3.13, "Emulating container types"): a method of the class,
-- or what its instances are as a builtin.
use Rattle.std.specs.Prelude.{codes, if◌then◌else◌, Option, None, Some}
use Rattle.pyc_attributes.specs.Binding.{through_instance}
use Rattle.pyc_class_ids.specs.declared.builtin_class.BuiltinClass.{BuiltinClass}
use Rattle.pyc_class_ids.specs.declared.builtin_class.BuiltinClass.TheVariants as class
use Rattle.pyc_class_ids.specs.Class.{Id, builtin, user}
use Rattle.pyc_class_ids.specs.Mro.{Mro, is_unknown, order_contains}
use Rattle.pyc_subscripts.specs.declared.owners.Counts.{Counts}
use Rattle.pyc_subscripts.specs.declared.owners.Counts.TheVariants as counts
use Rattle.pyc_obligations.specs.Asking.{ask_member}
use Rattle.pyc_reading.specs.Owing.{order_in}
use Rattle.pyc_reading.specs.Answers.{MemberAnswer}
use Rattle.pyc_reading.specs.Traces.{Step}
use Rattle.pyc_reading.specs.Keys as key
use Rattle.pyc_reading.specs.Readings.{Done, Ask, and_then}
use Rattle.pyc_type_forms.specs.Types.{Ty, any, none, module_type, instance, class_object, list, dict, tuple}
use Rattle.pyc_type_forms.specs.Types.{tuple_of, union, callable}

-- what a value goes by
pub data Owner : Type 0 where
  -- nothing is known of it
  unknown_owner : Owner
  -- a method that gives this
  method_owner : Ty → Owner
  -- a builtin type
  builtin_owner : Ty → Owner
  -- nothing
  no_owner : Owner

-- what the instances of a class of this order count as
abbrev pub counted : Mro → Counts
counted order =
    if order_contains order (builtin class.Str) then counts.Str
    else if order_contains order (builtin class.Bytes) then counts.Bytes
    else counts.Other

abbrev pub counts_as : Mro → Counts
counts_as order = if is_unknown order then counts.Unknown else counted order

abbrev pub str_type : Ty
str_type = instance (builtin class.Str)

abbrev pub bytes_type : Ty
bytes_type = instance (builtin class.Bytes)

abbrev pub int_type : Ty
int_type = instance (builtin class.Int)

-- what counts as a builtin
abbrev pub counted_owner : Counts → Owner
counted_owner counts.Str = builtin_owner str_type
counted_owner counts.Bytes = builtin_owner bytes_type
counted_owner _ = no_owner

-- what a call of something of this type gives, where its signature is known
abbrev pub given : Ty → Ty
given (callable params result) = result
given _ = any

-- ---- subscripts

abbrev pub owner_by_getitem : Option MemberAnswer → Counts → Owner
owner_by_getitem (Some found) form = method_owner (given (through_instance found))
owner_by_getitem None form = counted_owner form

unfoldable pub ask_owner : Id → Counts → Step Owner
ask_owner c form = and_then (ask_member c (codes "__getitem__")) (λ found. Done (owner_by_getitem found form))

-- an instance of a class of a source, by what it counts as
abbrev pub user_owner : Id → Counts → Step Owner
user_owner c counts.Unknown = Done unknown_owner
user_owner c counts.Str = ask_owner c counts.Str
user_owner c counts.Bytes = ask_owner c counts.Bytes
user_owner c counts.Other = ask_owner c counts.Other

-- an instance of a builtin class
abbrev pub builtin_counts : BuiltinClass → Counts
builtin_counts class.Str = counts.Str
builtin_counts class.Bytes = counts.Bytes
builtin_counts _ = counts.Other

unfoldable pub source_owner : Id → Step Owner
source_owner c = Ask (key.class c) (λ answer. user_owner c (counts_as (order_in answer)))

abbrev pub instance_owner : Id → Step Owner
instance_owner (builtin c) = Done (counted_owner (builtin_counts c))
instance_owner (user m x) = source_owner (user m x)

-- what a subscript of a value of a type that is no union goes by
abbrev pub subscript_owner : Ty → Step Owner
subscript_owner any = Done unknown_owner
subscript_owner none = Done no_owner
subscript_owner (module_type m) = Done no_owner
subscript_owner (instance c) = instance_owner c
subscript_owner (class_object c) = Done unknown_owner
subscript_owner (list item) = Done (builtin_owner (list item))
subscript_owner (dict key value) = Done (builtin_owner (dict key value))
subscript_owner (tuple items) = Done (builtin_owner (tuple items))
subscript_owner (tuple_of item) = Done (builtin_owner (tuple_of item))
subscript_owner (union items) = Done no_owner
subscript_owner (callable params result) = Done no_owner

-- ---- iteration

abbrev pub owner_by_item_method : Option MemberAnswer → Counts → Owner
owner_by_item_method (Some found) form = unknown_owner
owner_by_item_method None form = counted_owner form

unfoldable pub ask_item_iterable : Id → Counts → Step Owner
ask_item_iterable c form = and_then (ask_member c (codes "__getitem__")) (λ found. Done (owner_by_item_method found form))

abbrev pub owner_by_iter : Id → Counts → Option MemberAnswer → Step Owner
owner_by_iter c form (Some found) = Done unknown_owner
owner_by_iter c form None = ask_item_iterable c form

unfoldable pub ask_iterable : Id → Counts → Step Owner
ask_iterable c form = and_then (ask_member c (codes "__iter__")) (owner_by_iter c form)

abbrev pub user_iterable : Id → Counts → Step Owner
user_iterable c counts.Unknown = Done unknown_owner
user_iterable c counts.Str = ask_iterable c counts.Str
user_iterable c counts.Bytes = ask_iterable c counts.Bytes
user_iterable c counts.Other = ask_iterable c counts.Other

unfoldable pub source_iterable : Id → Step Owner
source_iterable c = Ask (key.class c) (λ answer. user_iterable c (counts_as (order_in answer)))

abbrev pub instance_iterable : Id → Step Owner
instance_iterable (builtin c) = Done (counted_owner (builtin_counts c))
instance_iterable (user m x) = source_iterable (user m x)

-- what an iteration of a value of a type that is no union goes by
abbrev pub iterable : Ty → Step Owner
iterable any = Done unknown_owner
iterable none = Done no_owner
iterable (module_type m) = Done no_owner
iterable (instance c) = instance_iterable c
iterable (class_object c) = Done unknown_owner
iterable (list item) = Done (builtin_owner (list item))
iterable (dict key value) = Done (builtin_owner (dict key value))
iterable (tuple items) = Done (builtin_owner (tuple items))
iterable (tuple_of item) = Done (builtin_owner (tuple_of item))
iterable (union items) = Done no_owner
iterable (callable params result) = Done no_owner
