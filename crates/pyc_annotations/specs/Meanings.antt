-- What a name means where a type or a base is written (typing specification, "Type annotations", "Valid type expression
-- forms"; Python reference 3.13, "Resolution of names"). Names are sought at the top level of the module where they
-- stand, then among Python's builtins, and what is found nowhere is reported.
use Rattle.std.specs.Prelude.{ℕ, Bool, true, false, bytes_eq, is_some, codes, if◌then◌else◌, List, Option, None}
use Rattle.std.specs.Prelude.{Some}
use Rattle.pyc_ast.specs.declared.position.Position.{Position}
use Rattle.pyc_bindings.specs.Redefinitions.{declaration}
use Rattle.pyc_builtins.specs.declared.names.BuiltinName.{BuiltinName}
use Rattle.pyc_builtins.specs.declared.names.BuiltinName.TheVariants as builtins
use Rattle.pyc_builtins.specs.Members.{is_dunder}
use Rattle.pyc_builtins.specs.Names.{builtin_name}
use Rattle.pyc_class_ids.specs.Class.{Id, builtin}
use Rattle.pyc_messages.specs.Definitions as message
use Rattle.pyc_names.specs.declared.fixed.FixedModule.{FixedModule}
use Rattle.pyc_names.specs.declared.fixed.FixedName.{FixedName}
use Rattle.pyc_names.specs.FixedModules.{fixed_module, fixed_name}
use Rattle.pyc_names.specs.Interfaces.{Interface}
use Rattle.pyc_reading.specs.Answers.{Answer, NameAnswer, NameKind, name_is}
use Rattle.pyc_reading.specs.Answers as kind
use Rattle.pyc_reading.specs.Outside.{ask_outside}
use Rattle.pyc_reading.specs.Traces.{Step}
use Rattle.pyc_reading.specs.Keys.{name}
use Rattle.pyc_reading.specs.Readings.{Done, Ask, Report, and_then}
use Rattle.pyc_type_forms.specs.Types.{Ty, any, class_object}

-- what a name means where a type is written
pub data Meaning : Type 0 where
  class_meant : Id → Meaning
  -- Any, or a thing of which nothing is known
  any_meant : Meaning
  -- the builtin class `type`
  type_meant : Meaning
  -- a name of a fixed module that is not Any
  fixed_meant : FixedName → Meaning
  module_meant : List (List ℕ) → Meaning
  -- a variable or a function, and whether its type is Any
  variable_meant : Bool → Meaning
  function_meant : Bool → Meaning
  -- a thing that no type is
  nothing_meant : Meaning

-- ---- what is reported

-- a name that nothing defines
unfoldable pub report_undefined : Position → List ℕ → Step Meaning
report_undefined at x = Report (message.not_defined at x) (Done any_meant)

-- an attribute that a module does not have
unfoldable pub no_attribute : Position → List ℕ → Step Meaning
no_attribute at n = Report (message.absent_attribute at (message.no_module_attribute_text n)) (Done any_meant)

-- ---- names of modules

-- whether a type is Any
abbrev pub is_any : Ty → Bool
is_any any = true
is_any _ = false

-- the class whose class object a type is
abbrev pub class_in : Ty → Meaning
class_in (class_object c) = class_meant c
class_in _ = any_meant

-- a variable without an annotation: where nothing is known of its type it is Any
abbrev pub unannotated : Bool → Meaning
unannotated true = any_meant
unannotated false = variable_meant false

-- what a thing of this kind and type means; nothing is known of what is absent
abbrev pub kind_meaning : NameKind → Ty → Meaning
kind_meaning kind.annotated_variable ty = variable_meant (is_any ty)
kind_meaning kind.variable ty = unannotated (is_any ty)
kind_meaning kind.function_name ty = function_meant (is_any ty)
kind_meaning kind.class_name ty = class_in ty
kind_meaning (kind.module_name m) ty = module_meant m
kind_meaning (kind.fixed found) ty = fixed_meant found
kind_meaning _ ty = any_meant

-- what the answer to a key of a name means
abbrev pub answer_meaning : Answer → Meaning
answer_meaning (name_is found) = kind_meaning found.kind found.ty
answer_meaning _ = any_meant

-- what a name of a fixed module means
abbrev pub fixed_meaning : Option FixedName → Meaning
fixed_meaning (Some found) = fixed_meant found
fixed_meaning None = any_meant

-- ---- builtins

abbrev pub builtin_meaning : BuiltinName → Meaning
builtin_meaning (builtins.Class c) = class_meant (builtin c)
builtin_meaning (builtins.Function result) = function_meant false
builtin_meaning builtins.RevealType = function_meant true
builtin_meaning builtins.Any = any_meant

-- a name that is no builtin: Any where two underscores stand at both ends
abbrev pub no_builtin : Position → List ℕ → Step Meaning
no_builtin at x = if is_dunder x then Done any_meant else report_undefined at x

abbrev pub found_builtin : Position → List ℕ → Option BuiltinName → Step Meaning
found_builtin at x (Some found) = Done (builtin_meaning found)
found_builtin at x None = no_builtin at x

-- a name that the module does not bind, where it begins
unfoldable pub unbound : Position → List ℕ → Step Meaning
unbound at x = if bytes_eq x (codes "type") then Done type_meant else found_builtin at x (builtin_name x)

-- ---- looking up

-- a name of the own module, by whether that binds it: where it does not, the answer to its key says nothing
abbrev pub own_meaning : Position → List ℕ → Bool → Meaning → Step Meaning
own_meaning at x true found = Done found
own_meaning at x false found = unbound at x

-- whether a file binds a name at its top level
abbrev pub binds : Interface → List ℕ → Bool
binds file x = is_some (declaration file.bindings x)

-- a name of a module, of a fixed one or by its key
abbrev pub name_in_module : List (List ℕ) → List ℕ → Option FixedModule → Step Meaning
name_in_module m x (Some found) = Done (fixed_meaning (fixed_name found x))
name_in_module m x None = Ask (name (record { module_path = m; name = x })) (λ answer. Done (answer_meaning answer))

unfoldable pub module_name_meaning : List (List ℕ) → List ℕ → Step Meaning
module_name_meaning m x = name_in_module m x (fixed_module m)

-- a name that stands in a file, where it begins
unfoldable pub own_name : Interface → Position → List ℕ → Step Meaning
own_name file at x = and_then (module_name_meaning file.name x) (own_meaning at x (binds file x))

-- an attribute of a module, by what other files see there
abbrev pub attribute_of_kind : Position → List ℕ → NameAnswer → NameKind → Step Meaning
attribute_of_kind at n found kind.no_name = no_attribute at n
attribute_of_kind at n found _ = Done (kind_meaning found.kind found.ty)

-- an attribute of a module, of a fixed one or as other files see the name
abbrev pub attribute_in_module : Position → List (List ℕ) → List ℕ → Option FixedModule → Step Meaning
attribute_in_module at m n (Some found) = Done (fixed_meaning (fixed_name found n))
attribute_in_module at m n None =
    and_then (ask_outside (record { module_path = m; name = n })) (λ found. attribute_of_kind at n found found.kind)

-- an attribute of a module, of which is reported where its names begin: Any where two underscores stand at both ends
unfoldable pub module_attribute : Position → List (List ℕ) → List ℕ → Step Meaning
module_attribute at m n = if is_dunder n then Done any_meant else attribute_in_module at m n (fixed_module m)
