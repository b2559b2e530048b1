-- The plain file that one of the code is.
use Rattle.std.specs.Prelude.{map, string_bytes}
use Rattle.pyc_ast.specs.Modules.{outcome_of}
use Rattle.pyc_bindings.specs.BindingView.{binding_of}
use Rattle.pyc_bindings.specs.RedefinitionView.{redefinition_of}
use Rattle.pyc_members.specs.DeclaredClassView.{declared_class_in}
use Rattle.pyc_names.specs.declared.source_file.SourceFile.{SourceFile as SourceFileOf}
use Rattle.pyc_names.specs.SourceFiles.{SourceFile}

-- the plain file that one of the code is
abbrev pub source_in : SourceFileOf → SourceFile
source_in file =
    record {
      path = string_bytes file.path;
      name = file.interface.value.name;
      is_package = file.interface.value.is_package;
      is_stub = file.interface.value.is_stub;
      outcome = outcome_of file.outcome;
      bindings = map binding_of file.interface.value.bindings.items;
      again = map redefinition_of file.again.items;
      classes = map declared_class_in file.interface.value.classes.items;
    }
