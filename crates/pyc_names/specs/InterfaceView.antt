-- The interfaces of files of the code.
use Rattle.std.specs.Prelude.{List, map}
use Rattle.std.specs.declared.alloc.Global.{Global}
use Rattle.std.specs.declared.rc.Rc.{Rc}
use Rattle.pyc_bindings.specs.BindingView.{binding_of}
use Rattle.pyc_members.specs.DeclaredClassView.{declared_class_in}
use Rattle.pyc_names.specs.declared.interface.Interface.{Interface as InterfaceOf}
use Rattle.pyc_names.specs.Interfaces.{Interface}

-- the plain interface that one of the code is
abbrev pub interface_in : InterfaceOf → Interface
interface_in file =
    record {
      name = file.name;
      is_package = file.is_package;
      is_stub = file.is_stub;
      has_fault = file.has_fault;
      bindings = map binding_of file.bindings.items;
      classes = map declared_class_in file.classes.items;
    }

-- the plain interfaces that shared ones are
abbrev pub interfaces_in : List (Rc InterfaceOf Global) → List Interface
interfaces_in files = map (λ file. interface_in file.value) files
