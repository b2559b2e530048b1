-- What a name in an expression is (Python reference 3.13, "Resolution of names"; the library reference, "Built-in
-- Functions").
use Rattle.std.specs.Prelude.{ℕ, Bool, bytes_eq, codes, if◌then◌else◌, is_some, List, Option, None, Some}
use Rattle.pyc_ast.specs.declared.position.Position.{Position}
use Rattle.pyc_bindings.specs.Redefinitions.{declaration}
use Rattle.pyc_builtins.specs.declared.names.BuiltinName.{BuiltinName}
use Rattle.pyc_builtins.specs.declared.names.BuiltinName.TheVariants as builtins
use Rattle.pyc_builtins.specs.declared.names.FunctionResult.{FunctionResult}
use Rattle.pyc_builtins.specs.declared.names.FunctionResult.TheVariants as gives
use Rattle.pyc_builtins.specs.Members.{is_dunder}
use Rattle.pyc_builtins.specs.Names.{builtin_name}
use Rattle.pyc_class_ids.specs.declared.builtin_class.BuiltinClass.TheVariants as class
use Rattle.pyc_class_ids.specs.Class.{builtin}
use Rattle.pyc_messages.specs.Definitions as message
use Rattle.pyc_names.specs.declared.fixed.FixedModule.{FixedModule}
use Rattle.pyc_names.specs.declared.fixed.FixedName.{FixedName}
use Rattle.pyc_names.specs.FixedModules.{fixed_module, fixed_name}
use Rattle.pyc_names.specs.SourceFiles.{SourceFile}
use Rattle.pyc_reading.specs.Outside.{ask_name}
use Rattle.pyc_obligations.specs.Values.{
  SpecialForm,
  Value,
  plain_special_form,
  fixed_special_form,
  reveal_type_special_form,
  isinstance_special_form,
}
use Rattle.pyc_obligations.specs.Values.{plain_value}
use Rattle.pyc_reading.specs.Answers.{NameAnswer, NameKind}
use Rattle.pyc_reading.specs.Answers as kind
use Rattle.pyc_reading.specs.Traces.{Step}
use Rattle.pyc_reading.specs.Readings.{Done, Report, and_then}
use Rattle.pyc_scopes.specs.Scopes.{Local, Scope, local_of}
use Rattle.pyc_type_forms.specs.Types.{Ty, any, none, instance, class_object, list, callable, dots}

-- a value of this type that is this thing
abbrev pub value_with : Ty → SpecialForm → Value
value_with ty special_form = record { ty = ty; special_form = special_form }

-- ---- what an answer gives

-- which thing a name of this kind is
abbrev pub special_form_of_kind : NameKind → SpecialForm
special_form_of_kind (kind.fixed found) = fixed_special_form found
special_form_of_kind _ = plain_special_form

abbrev pub answered_value : NameAnswer → Value
answered_value found = value_with found.ty (special_form_of_kind found.kind)

-- a name of a fixed module: Any, but that it may be a special one
abbrev pub fixed_value : Option FixedName → Value
fixed_value (Some found) = value_with any (fixed_special_form found)
fixed_value None = plain_value any

-- ---- builtins

-- what a call of a builtin function gives
abbrev pub result_type : FunctionResult → Ty
result_type gives.Int = instance (builtin class.Int)
result_type gives.Str = instance (builtin class.Str)
result_type gives.Bool = instance (builtin class.Bool)
result_type gives.None = none
result_type gives.ListOfAny = list any

-- which thing a builtin function of this name is
abbrev pub function_special_form : List ℕ → SpecialForm
function_special_form x = if bytes_eq x (codes "isinstance") then isinstance_special_form else plain_special_form

-- a builtin of this name: a function takes any arguments
abbrev pub builtin_value : List ℕ → BuiltinName → Value
builtin_value x (builtins.Class c) = plain_value (class_object (builtin c))
builtin_value x (builtins.Function result) = value_with (callable dots (result_type result)) (function_special_form x)
builtin_value x builtins.RevealType = value_with any reveal_type_special_form
builtin_value x builtins.Any = plain_value any

-- a name that nothing defines
unfoldable pub report_undefined : Position → List ℕ → Step Value
report_undefined at x = Report (message.not_defined at x) (Done (plain_value any))

-- a name that is no builtin: Any where two underscores stand at both ends
abbrev pub no_builtin : Position → List ℕ → Step Value
no_builtin at x = if is_dunder x then Done (plain_value any) else report_undefined at x

-- a name that the module does not bind
abbrev pub found_builtin : Position → List ℕ → Option BuiltinName → Step Value
found_builtin at x (Some found) = Done (builtin_value x found)
found_builtin at x None = no_builtin at x

unfoldable pub unbound : Position → List ℕ → Step Value
unbound at x = found_builtin at x (builtin_name x)

-- ---- names of the module

-- whether a file binds a name at its top level
abbrev pub binds : SourceFile → List ℕ → Bool
binds file x = is_some (declaration file.bindings x)

-- a name of the module, by whether that binds it: where it does not, what is found under it says nothing
abbrev pub own_value : Position → List ℕ → Bool → Value → Step Value
own_value at x is_bound found = if is_bound then Done found else unbound at x

-- a name of the module in which it stands, of a fixed one or by its key
abbrev pub name_in_module : SourceFile → Position → List ℕ → Option FixedModule → Step Value
name_in_module file at x (Some found) = own_value at x (binds file x) (fixed_value (fixed_name found x))
name_in_module file at x None =
    and_then (ask_name (record { module_path = file.name; name = x }))
    (λ found. own_value at x (binds file x) (answered_value found))

unfoldable pub module_name : SourceFile → Position → List ℕ → Step Value
module_name file at x = name_in_module file at x (fixed_module file.name)

-- ---- the whole

-- the type of a local: Any before it is declared
abbrev pub local_type : Option Ty → Ty
local_type (Some ty) = ty
local_type None = any

abbrev pub by_local : Scope → Position → List ℕ → Option Local → Step Value
by_local scope at x (Some found) = Done (plain_value (local_type found.ty))
by_local scope at x None = module_name scope.file at x

-- what a name in an expression is
unfoldable pub resolve_name : Scope → Position → List ℕ → Step Value
resolve_name scope at x = by_local scope at x (local_of scope.locals x)
