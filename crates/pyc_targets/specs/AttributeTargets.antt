-- What an attribute takes when it is assigned to (Python reference 3.13, "Assignment statements" and "Attribute
-- references"; the library reference, `property`): methods, functions, classes and modules take whatever is assigned.
use Rattle.std.specs.Prelude.{ℕ, Bool, true, false, not, ◌&&◌, if◌then◌else◌}
use Rattle.std.specs.Prelude.{List, [], ◌∷◌, ◌++◌, Option, None, Some}
use Rattle.pyc_ast.specs.declared.position.Position.{Position}
use Rattle.pyc_attributes.specs.AttributeValues.{no_attribute, no_item_attribute}
use Rattle.pyc_attributes.specs.FoundAttributes.{Found, absent, known, member_of, name_with, item_attribute}
use Rattle.pyc_builtins.specs.declared.members.FoundMember.{FoundMember}
use Rattle.pyc_builtins.specs.declared.members.Member.{Member}
use Rattle.pyc_builtins.specs.declared.members.Member.TheVariants as member
use Rattle.pyc_builtins.specs.Members.{builtin_member, is_dunder}
use Rattle.pyc_class_ids.specs.declared.builtin_class.BuiltinClass.{BuiltinClass}
use Rattle.pyc_class_ids.specs.declared.builtin_class.BuiltinClass.TheVariants as class
use Rattle.pyc_class_ids.specs.Class.{Id, builtin_of, name_of}
use Rattle.pyc_messages.specs.Assignments as message
use Rattle.pyc_obligations.specs.Values.{Value}
use Rattle.pyc_reading.specs.Answers.{NameKind, function_name, class_name, module_name}
use Rattle.pyc_reading.specs.declared.answer.MemberKind.{MemberKind}
use Rattle.pyc_reading.specs.declared.answer.MemberKind.TheVariants as kind
use Rattle.pyc_reading.specs.Traces.{Step}
use Rattle.pyc_reading.specs.Readings.{Done, Report, and_then}
use Rattle.pyc_type_forms.specs.Types.{Ty, instance, class_object, list, dict, tuple, tuple_of, union}
use Rattle.pyc_type_forms.specs.Unions.{items_of, union_of}

-- ---- what is reported

-- a property of a class that cannot be set
unfoldable pub read_only : Position → List ℕ → Id → Step (Option Ty)
read_only at n c = Report (message.read_only at n (name_of c)) (Done None)

-- ---- builtins

-- the builtin class that a value of a type is an instance of
abbrev pub builtin_class_of : Ty → Option BuiltinClass
builtin_class_of (instance c) = builtin_of c
builtin_class_of (list item) = Some class.List
builtin_class_of (dict key value) = Some class.Dict
builtin_class_of (tuple items) = Some class.Tuple
builtin_class_of (tuple_of item) = Some class.Tuple
builtin_class_of _ = None

abbrev pub is_method_member : Member → Bool
is_method_member member.Attribute = false
is_method_member _ = true

abbrev pub is_found_method : Option FoundMember → Bool
is_found_method (Some found) = is_method_member found.member
is_found_method None = false

abbrev pub is_method_of : List ℕ → Option BuiltinClass → Bool
is_method_of n (Some c) = not (is_dunder n) && is_found_method (builtin_member c n)
is_method_of n None = false

-- whether a name is that of a method of a builtin class, through an instance of this type
unfoldable pub is_builtin_method : Ty → List ℕ → Bool
is_builtin_method owner n = is_method_of n (builtin_class_of owner)

-- ---- names of modules

-- a name of a module, by its kind: a function, a class or a module takes anything
abbrev pub name_want : NameKind → Ty → Option Ty
name_want function_name ty = None
name_want class_name ty = None
name_want (module_name m) ty = None
name_want _ ty = Some ty

-- ---- members

-- a property that has no setter: nothing is known of it through the class object
abbrev pub property_want : Position → Ty → List ℕ → Id → Ty → Step (Option Ty)
property_want at (class_object c) n module_path ty = Done (Some ty)
property_want at _ n module_path ty = read_only at n module_path

-- a member of a kind and type, which this class declares, through a value of a type: methods take anything
abbrev pub member_want : Position → Ty → List ℕ → Id → MemberKind → Ty → Step (Option Ty)
member_want at owner n module_path kind.Variable ty = Done (Some ty)
member_want at owner n module_path kind.SettableProperty ty = Done (Some ty)
member_want at owner n module_path kind.Property ty = property_want at owner n module_path ty
member_want at owner n module_path _ ty = Done None

-- what has no attribute of the name: reported as one of an item where the whole is a union
abbrev pub absent_reported : Position → Ty → Ty → List ℕ → Step Ty
absent_reported at (union items) item n = no_item_attribute at (union items) item n
absent_reported at whole item n = no_attribute at whole n

unfoldable pub absent_want : Position → Ty → Ty → List ℕ → Step (Option Ty)
absent_want at whole item n = and_then (absent_reported at whole item n) (λ ty. Done (Some ty))

-- what was found without its class: methods of builtin classes take anything
abbrev pub known_want : Bool → Ty → Option Ty
known_want is_method ty = if is_method then None else Some ty

-- what is found under a name of an item of a type; the target begins at the first position, its parentheses included
abbrev pub found_want : (at inside : Position) → Ty → Ty → List ℕ → Found → Step (Option Ty)
found_want at inside whole item n absent = absent_want inside whole item n
found_want at inside whole item n (known ty) = Done (known_want (is_builtin_method item n) ty)
found_want at inside whole item n (member_of module_path form ty) = member_want at item n module_path form ty
found_want at inside whole item n (name_with found) = Done (name_want found.kind found.ty)

unfoldable pub item_want : (at inside : Position) → Ty → List ℕ → Ty → Step (Option Ty)
item_want at inside whole n item = and_then (item_attribute item n) (found_want at inside whole item n)

-- ---- values

-- the types that items take, and whether one takes anything
pub record Wants : Type 0 where
  pub types : List Ty
  pub is_free : Bool

abbrev pub no_wants : Wants
no_wants = record { types = []; is_free = false }

abbrev pub with_want : Wants → Option Ty → Wants
with_want found (Some ty) = record { types = found.types ++ (ty ∷ []); is_free = found.is_free }
with_want found None = record { types = found.types; is_free = true }

-- these, and then what an attribute of items takes, in turn
unfoldable pub more_wants : (at inside : Position) → Ty → List ℕ → Wants → List Ty → Step Wants
more_wants at inside whole n found [] = Done found
more_wants at inside whole n found (item ∷ rest) =
    and_then (item_want at inside whole n item) (λ want. more_wants at inside whole n (with_want found want) rest)

-- the union of the types, where no item takes anything
abbrev pub want_of : Wants → Option Ty
want_of found = if found.is_free then None else Some (union_of found.types)

unfoldable pub type_want : (at inside : Position) → Ty → List ℕ → Step (Option Ty)
type_want at inside ty n =
    and_then (more_wants at inside ty n no_wants (items_of ty)) (λ found. Done (want_of found))

-- ---- the whole

-- the type that an attribute of a value takes, none where it takes anything; the target begins at the first position,
-- its parentheses included
abbrev pub attribute_want : (at inside : Position) → Value → List ℕ → Step (Option Ty)
attribute_want at inside owner n = type_want at inside owner.ty n
