-- The types of the members of the builtin classes (Python standard library, "Built-in Types").
use Rattle.std.specs.Prelude.{None, false}
use Rattle.pyc_class_ids.specs.declared.builtin_class.BuiltinClass.TheVariants as class
use Rattle.pyc_class_ids.specs.Class.{builtin}
use Rattle.pyc_type_forms.specs.Types.{plain, Ty, any, none, instance, list, dict, tuple, callable, nil, cons, dots}
use Rattle.pyc_type_forms.specs.Types.{listed, no_param, param}
use Rattle.pyc_builtins.specs.declared.members.Member.{Member}
use Rattle.pyc_builtins.specs.declared.members.Member.TheVariants as member
use Rattle.pyc_builtins.specs.declared.members.MethodResult.{MethodResult}
use Rattle.pyc_builtins.specs.declared.members.MethodResult.TheVariants as gives

-- the type of the items of a list; any for any other type
abbrev pub item_of : Ty → Ty
item_of (list item) = item
item_of _ = any

-- the type of the keys of a dictionary; any for any other type
abbrev pub key_of : Ty → Ty
key_of (dict key value) = key
key_of _ = any

-- the type of the values of a dictionary; any for any other type
abbrev pub value_of : Ty → Ty
value_of (dict key value) = value
value_of _ = any

-- the type str
abbrev str_type : Ty
str_type = instance (builtin class.Str)

-- the type `list[str]`
abbrev pub list_of_str : Ty
list_of_str = list str_type

-- the type `tuple[str, str, str]`
abbrev pub three_strs : Ty
three_strs = tuple (cons str_type (cons str_type (cons str_type nil)))

-- the type of a list of the items of a type
abbrev pub list_of_items : Ty → Ty
list_of_items owner = list (item_of owner)

-- the type of a key of a type with its value
abbrev pub pair_of : Ty → Ty
pair_of owner = tuple (cons (key_of owner) (cons (value_of owner) nil))

-- the type of a dictionary of the keys and values of a type
abbrev pub dict_of_pairs : Ty → Ty
dict_of_pairs owner = dict (key_of owner) (value_of owner)

-- the type of what a method of an instance of a type gives
abbrev pub result_type : Ty → MethodResult → Ty
result_type owner gives.Any = any
result_type owner gives.None = none
result_type owner gives.Int = instance (builtin class.Int)
result_type owner gives.Str = str_type
result_type owner gives.Bool = instance (builtin class.Bool)
result_type owner gives.Bytes = instance (builtin class.Bytes)
result_type owner gives.ListOfStr = list_of_str
result_type owner gives.ThreeStrs = three_strs
result_type owner gives.Item = item_of owner
result_type owner gives.ListOfItems = list_of_items owner
result_type owner gives.Value = value_of owner
result_type owner gives.Pair = pair_of owner
result_type owner gives.DictOfPairs = dict_of_pairs owner

-- the type of the method `append`: it takes one item, which has no name ("Mutable Sequence Types")
abbrev pub append_type : Ty → Ty
append_type owner =
    callable (listed (param (record { kind = plain None; is_optional = false }) (item_of owner) no_param)) none

-- the type of a member of an instance of a type
abbrev pub member_type : Ty → Member → Ty
member_type owner member.Attribute = any
member_type owner (member.Method result) = callable dots (result_type owner result)
member_type owner member.Append = append_type owner
