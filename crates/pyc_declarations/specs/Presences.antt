-- Whether modules and names are there (Python reference 3.13, "The import system").
use Rattle.std.specs.Prelude.{ℕ, Bool, true, false, if◌then◌else◌, List, Option, None, Some}
use Rattle.pyc_bindings.specs.Bindings.{Binding}
use Rattle.pyc_bindings.specs.Redefinitions.{declaration}
use Rattle.pyc_names.specs.declared.fixed.FixedModule.{FixedModule}
use Rattle.pyc_names.specs.FixedModules.{fixed_module}
use Rattle.pyc_names.specs.Following as names
use Rattle.pyc_names.specs.Following.{QualifiedName, on_ring, submodule}
use Rattle.pyc_names.specs.Interfaces.{Interface, file_of}
use Rattle.pyc_reading.specs.declared.answer.Presence.{Presence}
use Rattle.pyc_reading.specs.declared.answer.Presence.TheVariants as presence

-- a file: opaque where its source has a fault
abbrev pub source_presence : Bool → Presence
source_presence false = presence.There
source_presence true = presence.Opaque

-- a module that is there: opaque where its file is; a fixed module and one without a file are not
abbrev pub file_presence : Option Interface → Presence
file_presence (Some file) = source_presence file.has_fault
file_presence None = presence.There

abbrev pub unfixed_presence : List Interface → List (List ℕ) → Option FixedModule → Presence
unfixed_presence files m (Some fixed) = presence.There
unfixed_presence files m None = file_presence (file_of files m)

-- whether a module is there
unfoldable pub module_presence : List Interface → List (List ℕ) → Presence
module_presence files m =
    if names.has_module files m then unfixed_presence files m (fixed_module m) else presence.NoModule

-- a name that its module does not bind: its submodule of that name
abbrev pub submodule_presence : List Interface → QualifiedName → Presence
submodule_presence files q =
    if names.has_module files (submodule q) then presence.There else presence.NoName

-- a name that its module binds: a cycle where the binding itself is on a ring
abbrev pub binding_presence : List Interface → QualifiedName → Option Binding → Presence
binding_presence files q (Some b) = if on_ring files q then presence.Cycle else presence.There
binding_presence files q None = submodule_presence files q

-- a name of a file, by whether its source has a fault
abbrev pub name_in_source : List Interface → QualifiedName → Interface → Bool → Presence
name_in_source files q file false = binding_presence files q (declaration file.bindings q.name)
name_in_source files q file true = presence.Opaque

abbrev pub name_in_file : List Interface → QualifiedName → Option Interface → Presence
name_in_file files q (Some file) = name_in_source files q file file.has_fault
name_in_file files q None = submodule_presence files q

-- a name of a module that is there: a fixed module has every name
abbrev pub name_in_module : List Interface → QualifiedName → Option FixedModule → Presence
name_in_module files q (Some fixed) = presence.There
name_in_module files q None = name_in_file files q (file_of files q.module_path)

-- whether a module has a name
unfoldable pub name_presence : List Interface → QualifiedName → Presence
name_presence files q =
    if names.has_module files q.module_path then name_in_module files q (fixed_module q.module_path)
    else presence.NoModule
