-- Where statements stand (Python reference 3.13, "Naming and binding").
use Rattle.std.specs.Prelude.{ℕ, List, [], Option, None, Some}
use Rattle.pyc_bindings.specs.Bindings.{Binding}
use Rattle.pyc_body_context.specs.ClassBodies.{ClassBody, own_declaration}
use Rattle.pyc_class_ids.specs.Class.{Id}
use Rattle.pyc_iface.specs.declared.options.Options.{Options}
use Rattle.pyc_names.specs.SourceFiles.{SourceFile}
use Rattle.pyc_scopes.specs.Scopes.{Scope}
use Rattle.pyc_type_forms.specs.Types.{Ty}

-- what a body is
pub data BodyKind : Type 0 where
  -- of a module
  in_module : BodyKind
  -- of a class
  in_class : ClassBody → BodyKind
  -- of a function that gives values of a type
  in_function : Ty → BodyKind

-- where statements stand, and the options of the session
pub record Body : Type 0 where
  pub options : Options
  pub file : SourceFile
  pub kind : BodyKind

-- the scope of a file's top level
abbrev pub top_scope : SourceFile → Scope
top_scope file = record { file = file; locals = [] }

-- the declaration of a name that the body of a class binds: the body of a module or a function has no own names
abbrev pub own_binding : BodyKind → List ℕ → Option Binding
own_binding in_module x = None
own_binding (in_class own) x = own_declaration own x
own_binding (in_function result) x = None

-- the class that the statement around a body declares
abbrev pub class_around : BodyKind → Option Id
class_around in_module = None
class_around (in_class own) = own.class
class_around (in_function result) = None

-- the type of what a `return` gives: outside functions there is none
abbrev pub result_of : BodyKind → Option Ty
result_of in_module = None
result_of (in_class own) = None
result_of (in_function result) = Some result
