-- The interfaces of the files of a table, as plain ones.
use Rattle.std.specs.Prelude.{List}
use Rattle.pyc_names.specs.declared.table.Table.{Table}
use Rattle.pyc_names.specs.Interfaces.{Interface}
use Rattle.pyc_names.specs.InterfaceView.{interfaces_in}

-- the interfaces of the files of a table
abbrev pub table_in : Table → List Interface
table_in table = interfaces_in table.files.items
