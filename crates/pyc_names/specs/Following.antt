-- What a name of a module stands for: from-imports are followed from module to module (Python reference 3.13, "The
-- import statement", "Submodules"; typing specification, "Stub files").
use Rattle.std.specs.Prelude.{ℕ, zero, suc, ◌+◌, Bool, true, false, ◌&&◌, ◌||◌, if◌then◌else◌, List, [], ◌∷◌, ◌++◌}
use Rattle.std.specs.Prelude.{map, count_by, Option, None, Some, bytes_eq}
use Rattle.pyc_bindings.specs.Bindings.{Binding, BindingForm, import, import_from}
use Rattle.pyc_bindings.specs.Redefinitions.{declaration}
use Rattle.pyc_names.specs.declared.fixed.FixedModule.{FixedModule}
use Rattle.pyc_names.specs.declared.fixed.FixedName.{FixedName}
use Rattle.pyc_names.specs.FixedModules.{fixed_module, fixed_name}
use Rattle.pyc_names.specs.Hidden.{module_hides}
use Rattle.pyc_names.specs.Imports.{named_module}
use Rattle.pyc_names.specs.ModuleName.{same_module}
use Rattle.pyc_names.specs.Presence.{is_there}
use Rattle.pyc_names.specs.Interfaces.{Interface, file_of}

-- a name of a module
pub record QualifiedName : Type 0 where
  pub module_path : List (List ℕ)
  pub name : List ℕ

-- what a name stands for
pub data Referent : Type 0 where
  -- what its declaration declares, or a name of a fixed module that is not Any
  declared : QualifiedName → Referent
  -- a module
  module_itself : List (List ℕ) → Referent
  -- a name of a file with a fault, of which nothing is known
  opaque : Referent
  -- a name of a fixed module that is Any
  fixed_any : Referent
  -- a name of a module that is not there, or a module that is not there
  no_module : Referent
  -- a name that its module does not have
  no_name : Referent
  -- it leads from import to import without end
  cycle : Referent

-- what one step leads to: an end, or a name of another module
pub data Step : Type 0 where
  ends : Referent → Step
  leads : QualifiedName → Step

abbrev pub same_name : QualifiedName → QualifiedName → Bool
same_name a b = same_module a.module_path b.module_path && bytes_eq a.name b.name

-- whether a module is there among files
abbrev pub has_module : List Interface → List (List ℕ) → Bool
has_module files m = is_there (map (λ file. file.name) files) m

-- a module, if it is there
abbrev pub module_referent : List Interface → List (List ℕ) → Referent
module_referent files m = if has_module files m then module_itself m else no_module

-- the module that lies under another by a name
abbrev pub submodule : QualifiedName → List (List ℕ)
submodule q = q.module_path ++ (q.name ∷ [])

-- a name that its module does not bind: its submodule of that name, if it is there
abbrev pub unbound_referent : List Interface → QualifiedName → Referent
unbound_referent files q = if has_module files (submodule q) then module_itself (submodule q) else no_name

-- whether the module of a name hides it
abbrev pub is_hidden_name : List Interface → QualifiedName → Bool
is_hidden_name files q = module_hides files q.module_path q.name

-- the step to a name that another file sees: one that its module hides stands for its submodule alone
abbrev pub seen_step : List Interface → QualifiedName → Step
seen_step files next = if is_hidden_name files next then ends (unbound_referent files next) else leads next

-- a from-import that leads to a name: where that is the name that it binds, the submodule stands first
abbrev pub step_to : List Interface → QualifiedName → QualifiedName → Step
step_to files q next =
    if same_name next q && has_module files (submodule q) then ends (module_itself (submodule q))
    else seen_step files next

-- a from-import of a name from a module, or from above the root
abbrev pub import_step : List Interface → QualifiedName → Option (List (List ℕ)) → List ℕ → Step
import_step files q None name = ends no_module
import_step files q (Some m) name = step_to files q (record { module_path = m; name = name })

-- the step from a declaration in a file
abbrev pub form_step : List Interface → QualifiedName → Interface → BindingForm → Step
form_step files q file (import_from dots path name) =
    import_step files q (named_module file.is_package file.name dots path) name
form_step files q file (import path) = ends (module_referent files path)
form_step files q file _ = ends (declared q)

abbrev pub binding_step : List Interface → QualifiedName → Interface → Option Binding → Step
binding_step files q file (Some b) = form_step files q file b.form
binding_step files q file None = ends (unbound_referent files q)

-- the step from a name of a file, by whether its source has a fault: of one that has nothing is known
abbrev pub source_step : List Interface → QualifiedName → Interface → Bool → Step
source_step files q file false = binding_step files q file (declaration file.bindings q.name)
source_step files q file true = ends opaque

-- the step from a name of a module that is no fixed one; one that no file names binds nothing
abbrev pub file_step : List Interface → QualifiedName → Option Interface → Step
file_step files q (Some file) = source_step files q file file.has_fault
file_step files q None = ends (unbound_referent files q)

-- what a name of a fixed module stands for
abbrev pub fixed_referent : QualifiedName → Option FixedName → Referent
fixed_referent q (Some name) = declared q
fixed_referent q None = fixed_any

-- the step from a name of a module that is there; a file that is named as a fixed module never stands in its place
abbrev pub module_step : List Interface → QualifiedName → Option FixedModule → Step
module_step files q (Some fixed) = ends (fixed_referent q (fixed_name fixed q.name))
module_step files q None = file_step files q (file_of files q.module_path)

-- the step from a name
unfoldable pub step : List Interface → QualifiedName → Step
step files q =
    if has_module files q.module_path then module_step files q (fixed_module q.module_path) else ends no_module

-- ---- steps in a row

-- whether a binding is a from-import
abbrev pub is_import_from : BindingForm → Bool
is_import_from (import_from dots path name) = true
is_import_from _ = false

-- how many from-imports stand at the top level of files
abbrev pub import_count : List Interface → ℕ
import_count [] = 0
import_count (file ∷ files) = count_by (λ b. is_import_from b.form) file.bindings + import_count files

-- what a step comes to, where a name that it leads to is followed further
abbrev pub arrive : (QualifiedName → Referent) → Step → Referent
arrive further (ends found) = found
arrive further (leads next) = further next

-- what a name stands for where at most so many steps are made: a cycle if they do not end
abbrev pub walk : ℕ → List Interface → QualifiedName → Referent
walk zero files q = cycle
walk (suc n) files q = arrive (walk n files) (step files q)

-- what a name stands for: there is a step for each from-import, and a last one
unfoldable pub follow : List Interface → QualifiedName → Referent
follow files q = walk (suc (import_count files)) files q

-- whether a step leads to a name, or a name that it leads to does so further on
abbrev pub comes_to : (QualifiedName → Bool) → QualifiedName → Step → Bool
comes_to further to (ends found) = false
comes_to further to (leads next) = same_name next to || further next

-- whether at most so many steps from a name lead to another
abbrev pub leads_to : ℕ → List Interface → QualifiedName → QualifiedName → Bool
leads_to zero files to q = false
leads_to (suc n) files to q = comes_to (leads_to n files to) to (step files q)

-- whether a name is on a ring: following it comes back to it
unfoldable pub on_ring : List Interface → QualifiedName → Bool
on_ring files q = leads_to (import_count files) files q q
