-- The plain class that one of the code is, where it is declared.
use Rattle.pyc_iface.specs.declared.declared.Declared.{Declared as DeclaredOf}
use Rattle.pyc_iface.specs.Members.{Declared}
use Rattle.pyc_members.specs.ClassBodyView.{class_body_of}
use Rattle.pyc_names.specs.InterfaceView.{interface_in}

-- the plain class that one of the code is
abbrev pub declared_at : DeclaredOf → Declared
declared_at c = record { id = c.id.now; file = interface_in c.file.now; body = class_body_of c.body.now }
