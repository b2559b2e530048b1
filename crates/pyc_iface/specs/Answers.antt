-- What the files of a workspace answer, which is what their interfaces answer. That a thing is absent is an answer like
-- others.
use Rattle.std.specs.Prelude.{List, map}
use Rattle.pyc_class_ids.specs.Mro.{MroTable}
use Rattle.pyc_class_table.specs.ClassMros.{orders_of}
use Rattle.pyc_declarations.specs.ClassEntries.{class_entries}
use Rattle.pyc_declarations.specs.Declarations.{declared_answer}
use Rattle.pyc_iface.specs.Members.{member_answer}
use Rattle.pyc_names.specs.Interfaces.{Interface, interface_of}
use Rattle.pyc_names.specs.SourceFiles.{SourceFile}
use Rattle.pyc_reading.specs.Answers.{Answer, order_is, member_is}
use Rattle.pyc_reading.specs.Keys.{Key, class, member}

-- ---- interfaces

-- the order of each class, where files have these interfaces
unfoldable pub orders_by : List Interface → MroTable
orders_by interfaces = orders_of (class_entries interfaces)

-- what files answer that have these interfaces
abbrev pub answer_by : List Interface → Key → Answer
answer_by interfaces (class c) = order_is (orders_by interfaces c)
answer_by interfaces (member name) = member_is (member_answer interfaces (orders_by interfaces) name)
answer_by interfaces key = declared_answer interfaces key

-- ---- files

-- the order of each class, where these are the files
abbrev pub class_orders : List SourceFile → MroTable
class_orders files = orders_by (map interface_of files)

-- what files answer
abbrev pub answer_of : List SourceFile → Key → Answer
answer_of files = answer_by (map interface_of files)
