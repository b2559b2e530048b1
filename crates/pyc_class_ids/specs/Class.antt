-- Classes as plain values: a builtin class, or where a class is defined and its name there.
use Rattle.std.specs.Prelude.{ℕ, List, [], Bool, false, ◌==◌, ◌&&◌, bytes_eq, Option, None, Some}
use Rattle.std.specs.Cmp.Lexicographic.{pointwise}
use Rattle.pyc_class_ids.specs.declared.builtin_class.BuiltinClass.{BuiltinClass}
use Rattle.pyc_class_ids.specs.declared.builtin_class.BuiltinClass.TheVariants as class
use Rattle.pyc_class_ids.specs.declared.class_id.InstanceForm.{InstanceForm}
use Rattle.pyc_class_ids.specs.declared.class_id.InstanceForm.TheVariants as form
use Rattle.pyc_class_ids.specs.declared.class_id.Named.{Named}
use Rattle.pyc_class_ids.specs.declared.class_id.Named.TheVariants as named
use Rattle.pyc_class_ids.specs.BuiltinClasses.{number_of, builtin_name}

-- a class: a builtin one, or one of a source, by the parts of its module's dotted name and its own name, in UTF-8
pub data Id : Type 0 where
  builtin : BuiltinClass → Id
  user : List (List ℕ) → List ℕ → Id

-- the class that is so named
abbrev pub id_of : Named → Id
id_of (named.Builtin class) = builtin class
id_of (named.User class) = user class.value.module_parts.items class.value.own_name

-- whether two classes are one: the same builtin class, or the same module, part by part, and the same name
abbrev pub same_class : Id → Id → Bool
same_class (builtin a) (builtin b) = number_of a == number_of b
same_class (builtin a) (user m n) = false
same_class (user m n) (builtin b) = false
same_class (user m n) (user m' n') = pointwise bytes_eq m m' && bytes_eq n n'

-- the name of a class in its module
abbrev pub name_of : Id → List ℕ
name_of (builtin class) = builtin_name class
name_of (user m n) = n

-- the parts of the name of a class's module; a builtin class has none
abbrev pub module_of : Id → List (List ℕ)
module_of (builtin class) = []
module_of (user m n) = m

-- the builtin class that a class is
abbrev pub builtin_of : Id → Option BuiltinClass
builtin_of (builtin class) = Some class
builtin_of (user m n) = None

-- the class `object`
abbrev pub object_id : Id
object_id = builtin class.Object

-- the class `int`
abbrev pub int_id : Id
int_id = builtin class.Int

-- the class `float`
abbrev pub float_id : Id
float_id = builtin class.Float

-- the form of type that an instance of a builtin class has: list, dict and tuple have one of their own
abbrev pub builtin_form : BuiltinClass → InstanceForm
builtin_form class.List = form.List
builtin_form class.Dict = form.Dict
builtin_form class.Tuple = form.Tuple
builtin_form _ = form.Plain

-- the form of type that an instance of a class has
abbrev pub form_of : Id → InstanceForm
form_of (builtin class) = builtin_form class
form_of (user m n) = form.Plain
