-- What imports in bodies report, and to which types they bind names (Python reference 3.13, "The import statement" and
-- "Naming and binding"; mypy's documentation, "Missing imports").
use Rattle.std.specs.Prelude.{ℕ, Bool, true, false, is_some, if◌then◌else◌, List, [], ◌∷◌, Option, None, Some}
use Rattle.pyc_ast.specs.declared.position.Position.{Position}
use Rattle.pyc_ast.specs.declared.stmt.Alias.{Alias}
use Rattle.pyc_ast.specs.Statements.{StmtForm, ImportedModule, ImportFrom}
use Rattle.pyc_ast.specs.Statements as plain
use Rattle.pyc_iface.specs.declared.options.Options.{Options}
use Rattle.pyc_imports.specs.ImportReadings.{import_reading, imported_reading, module_reading}
use Rattle.pyc_imports.specs.Names.{alias_name, imported_names, module_names}
use Rattle.pyc_locals.specs.Locals.{LocalType, bound}
use Rattle.pyc_locals.specs.FlowStates.{FlowState, name_bound}
use Rattle.pyc_names.specs.FixedModules.{fixed_module}
use Rattle.pyc_names.specs.Following.{QualifiedName}
use Rattle.pyc_names.specs.Imports.{named_module}
use Rattle.pyc_names.specs.Interfaces.{Interface}
use Rattle.pyc_reading.specs.declared.answer.Export.{Export}
use Rattle.pyc_reading.specs.Outside.{ask_name, exported}
use Rattle.pyc_reading.specs.Traces.{Step}
use Rattle.pyc_reading.specs.Readings.{Done, ◌>>=◌}
use Rattle.pyc_type_forms.specs.Types.{Ty, any, module_type}

-- ---- names that are bound

-- a point at which each of some names is bound to one type, in turn
abbrev pub names_bound : LocalType → List (List ℕ) → FlowState → FlowState
names_bound ty [] p = p
names_bound ty (x ∷ rest) p = names_bound ty rest (name_bound x ty p)

-- ---- modules in the body of a function

-- the module to which `import` binds a name: the whole one to the name after `as`, else the one that has the first part
-- as its name
abbrev pub bound_module : List (List ℕ) → Option (List ℕ) → List (List ℕ)
bound_module path (Some alias) = path
bound_module (first ∷ rest) None = first ∷ []
bound_module [] None = []

-- the type of the name: Any where the module that the import names is not there
abbrev pub type_if_there : Bool → List (List ℕ) → Ty
type_if_there true m = module_type m
type_if_there false m = any

-- a point after a module of `import`, by whether that is there
abbrev pub module_bound : ImportedModule → Bool → FlowState → FlowState
module_bound m is_there p =
    let ty = type_if_there is_there (bound_module m.path m.alias) in
    names_bound (bound ty) (module_names m) p

-- a module of `import`: the reading reports it where it is not there
abbrev pub module_read : Options → Position → ImportedModule → FlowState → Step FlowState
module_read options at m p = do
  is_there ← module_reading options at m
  Done (module_bound m is_there p)

-- the modules of `import`, in turn
abbrev pub modules_read : Options → Position → List ImportedModule → FlowState → Step FlowState
modules_read options at [] p = Done p
modules_read options at (m ∷ rest) p = do
  q ← module_read options at m p
  modules_read options at rest q

-- ---- names of modules in the body of a function

-- the type of what a name of a module stands for, by whether the module passes it on
abbrev pub ask_type : QualifiedName → Export → Step Ty
ask_type q passed_on = do
  found ← ask_name q
  Done (exported q found passed_on).ty

-- the type of a name of some module: Any in a fixed one, and above the root, where there is none
abbrev pub imported_type : Option (List (List ℕ)) → List ℕ → Export → Step Ty
imported_type None x passed_on = Done any
imported_type (Some m) x passed_on =
    if is_some (fixed_module m) then Done any else ask_type (record { module_path = m; name = x }) passed_on

-- a name of a from-import: the reading reports it where it is not there, and then asks its type
abbrev pub name_read : Options → Interface → Position → ImportFrom → Alias → FlowState → Step FlowState
name_read options file at from alias p = do
  passed_on ← imported_reading options file at from alias
  ty ← imported_type (named_module file.is_package file.name from.dots from.path) alias.name passed_on
  Done (name_bound (alias_name alias) (bound ty) p)

-- the names of a from-import, in turn
abbrev pub names_read : Options → Interface → Position → ImportFrom → List Alias → FlowState → Step FlowState
names_read options file at from [] p = Done p
names_read options file at from (alias ∷ rest) p = do
  q ← name_read options file at from alias p
  names_read options file at from rest q

-- ---- by the body in which the import stands

-- an import in the body of a function
unfoldable pub local_import_read : Options → Interface → Position → StmtForm → FlowState → Step FlowState
local_import_read options file at (plain.import modules) p = modules_read options at modules p
local_import_read options file at (plain.import_from from) p = names_read options file at from from.names p
local_import_read options file at _ p = Done p

-- an import in the body of a module, where the header of the file has read it: it binds its names to Any
unfoldable pub module_import_bound : StmtForm → FlowState → FlowState
module_import_bound form p = names_bound (bound any) (imported_names form) p

-- an import in the body of a class: the reading reports what is not there, and binds the names to Any
unfoldable pub class_import_read : Options → Interface → Position → StmtForm → FlowState → Step FlowState
class_import_read options file at form p = do
  u ← import_reading options file at form
  Done (module_import_bound form p)
