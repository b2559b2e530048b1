-- What is seen of a file by all else that names it (Python reference 3.13, "The import system", "Naming and binding").
use Rattle.std.specs.Prelude.{ℕ, Bool, true, false, List, Option}
use Rattle.std.specs.List.{find}
use Rattle.pyc_ast.specs.Modules.{Outcome, tree, fault}
use Rattle.pyc_bindings.specs.Bindings.{Binding}
use Rattle.pyc_members.specs.DeclaredClasses.{DeclaredClass}
use Rattle.pyc_names.specs.ModuleName.{same_module}
use Rattle.pyc_names.specs.SourceFiles.{SourceFile}

-- the interface of a file: the module that it is, whether it is the `__init__.py` or `__init__.pyi` of a package,
-- whether it is a stub, whether its source has a fault, the bindings of its top level in text order, and the classes
-- that it declares
pub record Interface : Type 0 where
  pub name : List (List ℕ)
  pub is_package : Bool
  pub is_stub : Bool
  pub has_fault : Bool
  pub bindings : List Binding
  pub classes : List DeclaredClass

-- whether a source has a fault
abbrev pub is_fault : Outcome → Bool
is_fault (tree m) = false
is_fault (fault line text) = true

-- the interface of a file
abbrev pub interface_of : SourceFile → Interface
interface_of file =
    record {
      name = file.name;
      is_package = file.is_package;
      is_stub = file.is_stub;
      has_fault = is_fault file.outcome;
      bindings = file.bindings;
      classes = file.classes;
    }

-- the interface of the file that names a module
abbrev pub file_of : List Interface → List (List ℕ) → Option Interface
file_of files m = find (λ file. same_module m file.name) files
