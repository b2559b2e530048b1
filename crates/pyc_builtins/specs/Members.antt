-- The members of the builtin classes (Python standard library, "Built-in Types" and "Built-in Exceptions").
use Rattle.std.specs.Prelude.{ℕ, List, [], ◌∷◌, codes, Option, None, Some, Bool, ◌&&◌, if◌then◌else◌, length, nat_eq}
use Rattle.std.specs.Prelude.{nat_le}
use Rattle.std.specs.List.{starts_with, ends_with}
use Rattle.pyc_class_ids.specs.declared.builtin_class.BuiltinClass.{BuiltinClass}
use Rattle.pyc_class_ids.specs.declared.builtin_class.BuiltinClass.TheVariants as class
use Rattle.pyc_builtins.specs.MroTable.{builtin_order}
use Rattle.pyc_builtins.specs.Tables.{lookup}
use Rattle.pyc_builtins.specs.declared.members.FoundMember.{FoundMember}
use Rattle.pyc_builtins.specs.declared.members.Member.{Member}
use Rattle.pyc_builtins.specs.declared.members.Member.TheVariants as member
use Rattle.pyc_builtins.specs.declared.members.MethodResult.TheVariants as gives

-- the members of str ("String Methods")
unfoldable pub str_members : List (List ℕ × Member)
str_members =
    (codes "capitalize", member.Method gives.Str) ∷
    (codes "casefold", member.Method gives.Str) ∷
    (codes "center", member.Method gives.Str) ∷
    (codes "expandtabs", member.Method gives.Str) ∷
    (codes "format", member.Method gives.Str) ∷
    (codes "format_map", member.Method gives.Str) ∷
    (codes "join", member.Method gives.Str) ∷
    (codes "ljust", member.Method gives.Str) ∷
    (codes "lower", member.Method gives.Str) ∷
    (codes "lstrip", member.Method gives.Str) ∷
    (codes "removeprefix", member.Method gives.Str) ∷
    (codes "removesuffix", member.Method gives.Str) ∷
    (codes "replace", member.Method gives.Str) ∷
    (codes "rjust", member.Method gives.Str) ∷
    (codes "rstrip", member.Method gives.Str) ∷
    (codes "strip", member.Method gives.Str) ∷
    (codes "swapcase", member.Method gives.Str) ∷
    (codes "title", member.Method gives.Str) ∷
    (codes "translate", member.Method gives.Str) ∷
    (codes "upper", member.Method gives.Str) ∷
    (codes "zfill", member.Method gives.Str) ∷
    (codes "count", member.Method gives.Int) ∷
    (codes "find", member.Method gives.Int) ∷
    (codes "index", member.Method gives.Int) ∷
    (codes "rfind", member.Method gives.Int) ∷
    (codes "rindex", member.Method gives.Int) ∷
    (codes "endswith", member.Method gives.Bool) ∷
    (codes "startswith", member.Method gives.Bool) ∷
    (codes "isalnum", member.Method gives.Bool) ∷
    (codes "isalpha", member.Method gives.Bool) ∷
    (codes "isascii", member.Method gives.Bool) ∷
    (codes "isdecimal", member.Method gives.Bool) ∷
    (codes "isdigit", member.Method gives.Bool) ∷
    (codes "isidentifier", member.Method gives.Bool) ∷
    (codes "islower", member.Method gives.Bool) ∷
    (codes "isnumeric", member.Method gives.Bool) ∷
    (codes "isprintable", member.Method gives.Bool) ∷
    (codes "isspace", member.Method gives.Bool) ∷
    (codes "istitle", member.Method gives.Bool) ∷
    (codes "isupper", member.Method gives.Bool) ∷
    (codes "split", member.Method gives.ListOfStr) ∷
    (codes "rsplit", member.Method gives.ListOfStr) ∷
    (codes "splitlines", member.Method gives.ListOfStr) ∷
    (codes "partition", member.Method gives.ThreeStrs) ∷
    (codes "rpartition", member.Method gives.ThreeStrs) ∷
    (codes "encode", member.Method gives.Bytes) ∷
    (codes "maketrans", member.Method gives.Any) ∷ []

-- the members of int and float ("Numeric Types - int, float, complex"), whose types are not known
unfoldable pub number_members : List (List ℕ × Member)
number_members =
    (codes "as_integer_ratio", member.Attribute) ∷
    (codes "bit_count", member.Attribute) ∷
    (codes "bit_length", member.Attribute) ∷
    (codes "conjugate", member.Attribute) ∷
    (codes "denominator", member.Attribute) ∷
    (codes "from_bytes", member.Attribute) ∷
    (codes "fromhex", member.Attribute) ∷
    (codes "hex", member.Attribute) ∷
    (codes "imag", member.Attribute) ∷
    (codes "is_integer", member.Attribute) ∷
    (codes "numerator", member.Attribute) ∷
    (codes "real", member.Attribute) ∷
    (codes "to_bytes", member.Attribute) ∷ []

-- the members of list ("Mutable Sequence Types", "Lists")
unfoldable pub list_members : List (List ℕ × Member)
list_members =
    (codes "append", member.Append) ∷
    (codes "extend", member.Method gives.None) ∷
    (codes "insert", member.Method gives.None) ∷
    (codes "remove", member.Method gives.None) ∷
    (codes "sort", member.Method gives.None) ∷
    (codes "reverse", member.Method gives.None) ∷
    (codes "clear", member.Method gives.None) ∷
    (codes "pop", member.Method gives.Item) ∷
    (codes "index", member.Method gives.Int) ∷
    (codes "count", member.Method gives.Int) ∷
    (codes "copy", member.Method gives.ListOfItems) ∷ []

-- the members of dict ("Mapping Types - dict")
unfoldable pub dict_members : List (List ℕ × Member)
dict_members =
    (codes "get", member.Method gives.Any) ∷
    (codes "pop", member.Method gives.Any) ∷
    (codes "keys", member.Method gives.Any) ∷
    (codes "values", member.Method gives.Any) ∷
    (codes "items", member.Method gives.Any) ∷
    (codes "fromkeys", member.Method gives.Any) ∷
    (codes "setdefault", member.Method gives.Value) ∷
    (codes "popitem", member.Method gives.Pair) ∷
    (codes "update", member.Method gives.None) ∷
    (codes "clear", member.Method gives.None) ∷
    (codes "copy", member.Method gives.DictOfPairs) ∷ []

-- the members of tuple ("Common Sequence Operations")
unfoldable pub tuple_members : List (List ℕ × Member)
tuple_members =
    (codes "count", member.Method gives.Int) ∷
    (codes "index", member.Method gives.Int) ∷ []

-- the members of BaseException ("Base classes"), whose types are not known
unfoldable pub exception_members : List (List ℕ × Member)
exception_members =
    (codes "args", member.Attribute) ∷
    (codes "with_traceback", member.Attribute) ∷
    (codes "add_note", member.Attribute) ∷ []

-- whether a name is underscored at both ends: at least four characters, with `__` at its front and at its end
abbrev pub is_dunder : List ℕ → Bool
is_dunder name =
    nat_le 4 (length name) && starts_with nat_eq name (codes "__") && ends_with nat_eq name (codes "__")

-- the member of bytes under a name ("Bytes and Bytearray Operations"): the type of no member is known
abbrev pub bytes_member : List ℕ → Option Member
bytes_member name = if is_dunder name then None else Some member.Attribute

-- the member under a name that a class itself has
abbrev pub own_member : BuiltinClass → List ℕ → Option Member
own_member class.Str name = lookup str_members name
own_member class.Int name = lookup number_members name
own_member class.Float name = lookup number_members name
own_member class.Bytes name = bytes_member name
own_member class.List name = lookup list_members name
own_member class.Dict name = lookup dict_members name
own_member class.Tuple name = lookup tuple_members name
own_member class.BaseException name = lookup exception_members name
own_member _ name = None

-- the member that a class has, if any, else what is found after it
abbrev pub found_or : BuiltinClass → Option Member → Option FoundMember → Option FoundMember
found_or class (Some member) after = Some (record { class = class; member = member })
found_or class None after = after

-- the member under a name of the first of these classes that has one itself
abbrev pub first_member : List BuiltinClass → List ℕ → Option FoundMember
first_member [] name = None
first_member (class ∷ classes) name = found_or class (own_member class name) (first_member classes name)

-- the member under a name of the first class in the order of a class that has one itself
abbrev pub builtin_member : BuiltinClass → List ℕ → Option FoundMember
builtin_member class name = first_member (builtin_order class) name
