-- The state of a session.
use Rattle.std.specs.Prelude.{List, []}
use Rattle.pyc_iface.specs.declared.options.Options.{Options}
use Rattle.pyc_workspace.specs.Workspace.{File, Unit}

-- a session's state: the options that it is run with, the files that are present, those of them that were put since the
-- last completed check, the files at that check, and the units that it examined
pub record State : Type 0 where
  pub options : Options
  pub present : List File
  pub touched : List File
  pub last : List File
  pub examined : List Unit

-- the state in which a session begins
abbrev pub start : Options → State
start options = record { options = options; present = []; touched = []; last = []; examined = [] }
