-- The sorts of operands (Python language reference 3.13, "Binary arithmetic operations"; typing specification, "Type
-- annotations").
use Rattle.std.specs.Prelude.{Bool, true, false, if◌then◌else◌}
use Rattle.pyc_class_ids.specs.declared.builtin_class.BuiltinClass.{BuiltinClass}
use Rattle.pyc_class_ids.specs.declared.builtin_class.BuiltinClass.TheVariants as class
use Rattle.pyc_class_ids.specs.Class.{Id, builtin, user}
use Rattle.pyc_class_ids.specs.Mro.{Mro, is_unknown, order_contains}
use Rattle.pyc_reading.specs.Owing.{order_in}
use Rattle.pyc_operators.specs.declared.table.Sort.{Sort}
use Rattle.pyc_operators.specs.declared.table.Sort.TheVariants as s
use Rattle.pyc_reading.specs.Traces.{Step}
use Rattle.pyc_reading.specs.Keys as key
use Rattle.pyc_reading.specs.Readings.{Done, Ask}
use Rattle.pyc_type_forms.specs.Types.{Ty, any, none, module_type, instance, class_object, list, dict, tuple, tuple_of}
use Rattle.pyc_type_forms.specs.Types.{union, callable}

-- ---- by the type alone

-- the sort of the instances of a builtin class
abbrev pub builtin_sort : BuiltinClass → Sort
builtin_sort class.Bool = s.Bool
builtin_sort class.Int = s.Int
builtin_sort class.Float = s.Float
builtin_sort class.Str = s.Str
builtin_sort class.Bytes = s.Bytes
builtin_sort _ = s.Other

-- the sort of the instances of a class by itself
abbrev pub class_sort : Id → Sort
class_sort (builtin c) = builtin_sort c
class_sort (user m x) = s.Other

-- the sort of a type by itself
abbrev pub sort_of : Ty → Sort
sort_of any = s.Any
sort_of none = s.None
sort_of (module_type m) = s.Other
sort_of (instance c) = class_sort c
sort_of (class_object c) = s.Class
sort_of (list item) = s.List
sort_of (dict key value) = s.Dict
sort_of (tuple items) = s.Tuple
sort_of (tuple_of item) = s.TupleOf
sort_of (union items) = s.Other
sort_of (callable params result) = s.Other

-- whether a class is a user's
abbrev pub is_user_class : Id → Bool
is_user_class (builtin c) = false
is_user_class (user m x) = true

-- whether a type has the instances of a user's class
abbrev pub is_user : Ty → Bool
is_user (instance c) = is_user_class c
is_user _ = false

-- Any, or what counts as Any
abbrev pub is_any : Sort → Bool
is_any s.Any = true
is_any _ = false

-- ---- by the order of a user's class

-- what the instances of a class count as whose order is known: the first of int, float, str and bytes that is in it
abbrev pub counted_sort : Mro → Sort
counted_sort order =
    if order_contains order (builtin class.Int) then s.Int
    else if order_contains order (builtin class.Float) then s.Float
    else if order_contains order (builtin class.Str) then s.Str
    else if order_contains order (builtin class.Bytes) then s.Bytes
    else s.Other

-- what the instances of a class count as: Any where its order is not known
abbrev pub ordered_sort : Mro → Sort
ordered_sort order = if is_unknown order then s.Any else counted_sort order

-- the sort of an operand that is an instance of a class
abbrev pub instance_sort : Id → Step Sort
instance_sort (builtin c) = Done (builtin_sort c)
instance_sort (user m x) = Ask (key.class (user m x)) (λ answer. Done (ordered_sort (order_in answer)))

-- the sort of an operand
abbrev pub operand_sort : Ty → Step Sort
operand_sort (instance c) = instance_sort c
operand_sort ty = Done (sort_of ty)
