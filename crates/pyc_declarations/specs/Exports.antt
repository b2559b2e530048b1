-- Whether a module passes a name on to other files (typing specification, "Stub files").
use Rattle.std.specs.Prelude.{if◌then◌else◌, List}
use Rattle.pyc_names.specs.Following.{QualifiedName, has_module, is_hidden_name, submodule}
use Rattle.pyc_names.specs.Interfaces.{Interface}
use Rattle.pyc_reading.specs.declared.answer.Export.{Export}
use Rattle.pyc_reading.specs.declared.answer.Export.TheVariants as export

-- a hidden name, by whether its submodule is there
abbrev pub hidden_export : List Interface → QualifiedName → Export
hidden_export files q = if has_module files (submodule q) then export.Submodule else export.Hidden

-- whether a module passes a name on
unfoldable pub name_export : List Interface → QualifiedName → Export
name_export files q = if is_hidden_name files q then hidden_export files q else export.Open
