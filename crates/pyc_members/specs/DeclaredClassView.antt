-- The plain declared class that one of the code is.
use Rattle.std.specs.Prelude.{ℕ, List, Option, bytes_eq}
use Rattle.std.specs.HashMap.{HashMap, get}
use Rattle.std.specs.declared.alloc.Global.{Global}
use Rattle.std.specs.declared.rc.Rc.{Rc}
use Rattle.pyc_ast.specs.declared.position.Position.{Position}
use Rattle.pyc_ast.specs.StatementView.{class_of}
use Rattle.pyc_members.specs.declared.declared_class.DeclaredClass.{DeclaredClass as DeclaredClassOf}
use Rattle.pyc_members.specs.ClassBodyView.{class_body_of}
use Rattle.pyc_members.specs.DeclaredClasses.{DeclaredClass}

-- the plain declared class that one of the code is
abbrev pub declared_class_of : DeclaredClassOf → DeclaredClass
declared_class_of found =
    record {
      name = found.name;
      at = found.at;
      head = class_of found.head.value;
      body = class_body_of found.body;
    }

-- the plain declared class that a shared one is
abbrev pub declared_class_in : Rc DeclaredClassOf Global → DeclaredClass
declared_class_in found = declared_class_of found.value

-- the position that each name has in a map
abbrev pub places_in : {S : Type 0} → HashMap (List ℕ) Position S → List ℕ → Option Position
places_in places n = get bytes_eq places n
