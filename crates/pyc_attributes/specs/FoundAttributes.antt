-- What a value of a type that is no union has under a name (Python reference 3.13, "Attribute references"; "Special
-- method names", `__getattr__`; the library reference, "Built-in Types").
use Rattle.std.specs.Prelude.{ℕ, Bool, codes, if◌then◌else◌, ◌&&◌, List, Option, None, Some}
use Rattle.pyc_builtins.specs.declared.members.FoundMember.{FoundMember}
use Rattle.pyc_builtins.specs.Members.{builtin_member, is_dunder}
use Rattle.pyc_builtins.specs.MemberTypes.{member_type}
use Rattle.pyc_class_ids.specs.declared.builtin_class.BuiltinClass.{BuiltinClass}
use Rattle.pyc_class_ids.specs.declared.builtin_class.BuiltinClass.TheVariants as class
use Rattle.pyc_class_ids.specs.Class.{Id, builtin, user}
use Rattle.pyc_attributes.specs.Binding.{is_of_builtin, through_instance, through_class}
use Rattle.pyc_names.specs.declared.fixed.FixedModule.{FixedModule}
use Rattle.pyc_names.specs.declared.fixed.FixedName.{FixedName}
use Rattle.pyc_names.specs.FixedModules.{fixed_module, fixed_name}
use Rattle.pyc_obligations.specs.Asking.{ask_member, is_unknown_class}
use Rattle.pyc_reading.specs.Answers.{MemberAnswer, NameAnswer, NameKind, fixed, no_name}
use Rattle.pyc_reading.specs.declared.answer.MemberKind.{MemberKind}
use Rattle.pyc_reading.specs.Outside.{ask_outside}
use Rattle.pyc_reading.specs.Traces.{Step}
use Rattle.pyc_reading.specs.Readings.{Done, and_then}
use Rattle.pyc_type_forms.specs.Types.{Ty, any, none, module_type, instance, class_object, list, dict, tuple}
use Rattle.pyc_type_forms.specs.Types.{tuple_of, union, callable}

-- what is found under a name
pub data Found : Type 0 where
  absent : Found
  -- something of this type
  known : Ty → Found
  -- a member that this class declares, of this kind; its type is as it is read
  member_of : Id → MemberKind → Ty → Found
  -- a name of a module, and what it stands for
  name_with : NameAnswer → Found

-- ---- builtins

-- a member of a builtin class through an instance of this type
abbrev pub builtin_found : Ty → Option FoundMember → Found
builtin_found owner (Some found) = known (member_type owner found.member)
builtin_found owner None = absent

-- what an instance of a builtin class has under a name: Any where two underscores stand at both ends of the name
unfoldable pub builtin_attribute : Ty → BuiltinClass → List ℕ → Found
builtin_attribute owner c n = if is_dunder n then known any else builtin_found owner (builtin_member c n)

-- a member of a builtin class through its class object is Any
abbrev pub class_found : Option FoundMember → Found
class_found (Some found) = known any
class_found None = absent

unfoldable pub builtin_class_attribute : BuiltinClass → List ℕ → Found
builtin_class_attribute c n = if is_dunder n then known any else class_found (builtin_member c n)

-- what has no attribute of its own
abbrev pub bare_attribute : List ℕ → Found
bare_attribute n = if is_dunder n then known any else absent

-- ---- classes of sources

-- a member, with its type as it is read: one with two underscores at both ends that a builtin class declares is Any
abbrev pub member_found : List ℕ → MemberAnswer → Ty → Found
member_found n found ty =
    if is_dunder n && is_of_builtin found then known any else member_of found.class found.kind ty

-- what `__getattr__` gives is Any
abbrev pub by_getattr : Option MemberAnswer → Found
by_getattr (Some found) = known any
by_getattr None = absent

-- an instance of a class, by whether its order is not known
abbrev pub without_member : Id → Bool → Step Found
without_member c is_unknown =
    if is_unknown then Done (known any)
    else and_then (ask_member c (codes "__getattr__")) (λ found. Done (by_getattr found))

abbrev pub no_member : Id → List ℕ → Step Found
no_member c n = if is_dunder n then Done (known any) else and_then (is_unknown_class c) (without_member c)

abbrev pub instance_found : Id → List ℕ → Option MemberAnswer → Step Found
instance_found c n (Some found) = Done (member_found n found (through_instance found))
instance_found c n None = no_member c n

-- an instance of a class of a source
unfoldable pub instance_attribute : Id → List ℕ → Step Found
instance_attribute c n = and_then (ask_member c n) (instance_found c n)

-- a class object, by whether the order of its class is not known
abbrev pub absent_unless : Bool → Found
absent_unless is_unknown = if is_unknown then known any else absent

abbrev pub no_class_member : Id → List ℕ → Step Found
no_class_member c n =
    if is_dunder n then Done (known any) else and_then (is_unknown_class c) (λ unknown. Done (absent_unless unknown))

abbrev pub class_object_found : Id → List ℕ → Option MemberAnswer → Step Found
class_object_found c n (Some found) = Done (member_found n found (through_class found))
class_object_found c n None = no_class_member c n

-- the class object of a class of a source
unfoldable pub class_object_attribute : Id → List ℕ → Step Found
class_object_attribute c n = and_then (ask_member c n) (class_object_found c n)

-- ---- modules

-- a name of a module, as other files see it
abbrev pub answered_found : NameAnswer → NameKind → Found
answered_found found no_name = absent
answered_found found _ = name_with found

-- a name of a fixed module: Any, but that it may be a special one
abbrev pub fixed_found : Option FixedName → Found
fixed_found (Some found) = name_with (record { kind = fixed found; ty = any })
fixed_found None = known any

abbrev pub module_name : List (List ℕ) → List ℕ → Option FixedModule → Step Found
module_name m n (Some found) = Done (fixed_found (fixed_name found n))
module_name m n None =
    and_then (ask_outside (record { module_path = m; name = n })) (λ found. Done (answered_found found found.kind))

-- Any where two underscores stand at both ends
unfoldable pub module_attribute : List (List ℕ) → List ℕ → Step Found
module_attribute m n = if is_dunder n then Done (known any) else module_name m n (fixed_module m)

-- ---- by the form of the type

abbrev pub of_instance : Id → List ℕ → Step Found
of_instance (builtin c) n = Done (builtin_attribute (instance (builtin c)) c n)
of_instance (user m x) n = instance_attribute (user m x) n

abbrev pub of_class_object : Id → List ℕ → Step Found
of_class_object (builtin c) n = Done (builtin_class_attribute c n)
of_class_object (user m x) n = class_object_attribute (user m x) n

-- what a value of a type that is no union has under a name; nothing is known of a union as one item
abbrev pub item_attribute : Ty → List ℕ → Step Found
item_attribute any n = Done (known any)
item_attribute none n = Done (bare_attribute n)
item_attribute (module_type m) n = module_attribute m n
item_attribute (instance c) n = of_instance c n
item_attribute (class_object c) n = of_class_object c n
item_attribute (list item) n = Done (builtin_attribute (list item) class.List n)
item_attribute (dict key value) n = Done (builtin_attribute (dict key value) class.Dict n)
item_attribute (tuple items) n = Done (builtin_attribute (tuple items) class.Tuple n)
item_attribute (tuple_of item) n = Done (builtin_attribute (tuple_of item) class.Tuple n)
item_attribute (union items) n = Done (known any)
item_attribute (callable params result) n = Done (bare_attribute n)
