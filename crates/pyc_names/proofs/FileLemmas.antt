-- A file that is made of its parts.
use Rattle.std.proofs.Common.{◌≡◌, ℕ, List, map, ap, ◌∙◌}
use Rattle.pyc_ast.specs.Modules.{Outcome}
use Rattle.pyc_bindings.specs.BindingView.{binding_of}
use Rattle.pyc_bindings.specs.Redefinitions.{Redefinition, redefinitions}
use Rattle.pyc_members.specs.DeclaredClassView.{declared_class_in}
use Rattle.pyc_names.specs.declared.interface.Interface.{Interface as InterfaceOf}
use Rattle.pyc_names.specs.Interfaces.{Interface, interface_of, is_fault}
use Rattle.pyc_names.specs.InterfaceView.{interface_in}
use Rattle.pyc_names.specs.SourceFiles.{SourceFile, source_file}

-- the file of these parts
abbrev pub file_with : List ℕ → InterfaceOf → Outcome → List Redefinition → SourceFile
file_with path interface outcome again =
    record {
      path = path;
      name = interface.name;
      is_package = interface.is_package;
      is_stub = interface.is_stub;
      outcome = outcome;
      bindings = map binding_of interface.bindings.items;
      again = again;
      classes = map declared_class_in interface.classes.items;
    }

module _ (path : List ℕ) (outcome : Outcome) (interface : InterfaceOf) (made : interface_in interface ≡ interface_of (source_file path outcome)) where
  -- its interface tells whether its source has a fault
  pub fault_made : (shared : InterfaceOf) → shared ≡ interface → shared.has_fault ≡ is_fault outcome
  unfolding source_file
  fault_made shared same = ap (λ (f : InterfaceOf). f.has_fault) same ∙ ap (λ (f : Interface). f.has_fault) made

  -- it is the file of its path and its source
  pub file_made : (spelled : List ℕ) (shared : InterfaceOf) (again : List Redefinition) → spelled ≡ path → shared ≡ interface
      → again ≡ redefinitions (interface_in interface).bindings → file_with spelled shared outcome again ≡ source_file path outcome
  unfolding source_file
  file_made spelled shared again spelled_is same again_is =
      let alike : interface_in shared ≡ interface_of (source_file path outcome) = ap interface_in same ∙ made in
      let defined = again_is ∙ ap (λ (f : Interface). redefinitions f.bindings) made in
      λ i. record {
        path = spelled_is i;
        name = (alike i).name;
        is_package = (alike i).is_package;
        is_stub = (alike i).is_stub;
        outcome = outcome;
        bindings = (alike i).bindings;
        again = defined i;
        classes = (alike i).classes;
      }
