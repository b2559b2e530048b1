-- The classes that files declare, as they count in the orders of classes (Python reference 3.13, "Class definitions").
use Rattle.std.specs.Prelude.{is_some, codes, List, flat_map, map}
use Rattle.pyc_annotations.specs.Bases.{Base, class_base, bases}
use Rattle.pyc_ast.specs.Exprs.{Argument}
use Rattle.pyc_class_ids.specs.Class.{user}
use Rattle.pyc_class_table.specs.declared.class_entry.WrittenBase.{WrittenBase}
use Rattle.pyc_class_table.specs.declared.class_entry.WrittenBase.TheVariants as written
use Rattle.pyc_class_table.specs.Entries.{Entry}
use Rattle.pyc_declarations.specs.Declarations.{declared_answer}
use Rattle.pyc_members.specs.ClassBodies.{own_member}
use Rattle.pyc_members.specs.DeclaredClasses.{DeclaredClass}
use Rattle.pyc_names.specs.Interfaces.{Interface}
use Rattle.pyc_reading.specs.Readings.{result_of}

-- a base as it counts: of what is no class nothing is known
abbrev pub written_base : Base → WrittenBase
written_base (class_base c) = written.Class c
written_base _ = written.Unknown

-- the bases of a class that stands in a file and has these arguments
unfoldable pub written_bases : List Interface → Interface → List Argument → List WrittenBase
written_bases files file arguments = map written_base (result_of (declared_answer files) (bases file arguments))

-- a class that a file declares
abbrev pub class_entry : List Interface → Interface → DeclaredClass → Entry
class_entry files file c =
    record {
      id = user file.name c.name;
      bases = written_bases files file c.head.arguments;
      has_call = is_some (own_member c.body (codes "__call__"));
    }

abbrev pub file_entries : List Interface → Interface → List Entry
file_entries files file = map (class_entry files file) file.classes

-- the classes that files declare
unfoldable pub class_entries : List Interface → List Entry
class_entries files = flat_map (file_entries files) files
