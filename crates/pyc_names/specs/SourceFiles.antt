-- Files as names see them: the module of each, and what its top level binds (Python reference 3.13, "The import
-- system", "Naming and binding"; typing specification, "Stub files").
use Rattle.std.specs.Prelude.{ℕ, Bool, nat_eq, codes, is_some, if◌then◌else◌, List, []}
use Rattle.std.specs.List.{ends_with}
use Rattle.pyc_ast.specs.Modules.{Outcome, tree, fault}
use Rattle.pyc_bindings.specs.Bindings.{Binding, bindings_of}
use Rattle.pyc_bindings.specs.Redefinitions.{Redefinition, redefinitions}
use Rattle.pyc_members.specs.DeclaredClasses.{DeclaredClass, declared_classes}
use Rattle.pyc_names.specs.FixedModules.{fixed_module}
use Rattle.pyc_names.specs.ModuleName.{module_of, is_stub_path, beside}

-- a file: its path, the module that it is, whether it is the `__init__.py` or `__init__.pyi` of a package, whether it
-- is a stub, what its source is, the bindings of its top level in text order, the names that they define again, and the
-- classes that it declares
pub record SourceFile : Type 0 where
  pub path : List ℕ
  pub name : List (List ℕ)
  pub is_package : Bool
  pub is_stub : Bool
  pub outcome : Outcome
  pub bindings : List Binding
  pub again : List Redefinition
  pub classes : List DeclaredClass

-- whether a path is that of the `__init__.py` or `__init__.pyi` of a folder
abbrev pub is_package_path : List ℕ → Bool
is_package_path path = ends_with nat_eq (beside path) (codes "/__init__.py")

-- the bindings of a source's top level: a source with a fault has none
abbrev pub top_bindings : Outcome → List Binding
top_bindings (tree m) = bindings_of m.statements
top_bindings (fault line text) = []

-- the classes that a source of a module declares, where these are the bindings of its top level: one with a fault, or
-- of a fixed module's name, declares none
abbrev pub classes_in : List (List ℕ) → List Binding → Outcome → List DeclaredClass
classes_in m bindings (tree found) =
    if is_some (fixed_module m) then [] else declared_classes bindings found.statements
classes_in m bindings (fault line text) = []

-- the file of a path and what its source is
unfoldable pub source_file : List ℕ → Outcome → SourceFile
source_file path outcome =
    record {
      path = path;
      name = module_of path;
      is_package = is_package_path path;
      is_stub = is_stub_path path;
      outcome = outcome;
      bindings = top_bindings outcome;
      again = redefinitions (top_bindings outcome);
      classes = classes_in (module_of path) (top_bindings outcome) outcome;
    }
