-- What is reported of a class, of a function and of a method, as a reading (Python reference 3.13, "Function
-- definitions", "Class definitions"; "The Python 2.3 method resolution order").
use Rattle.std.specs.Prelude.{ℕ, if◌then◌else◌, List, Option, None, Some}
use Rattle.pyc_annotations.specs.Bases.{Base, class_base, bases}
use Rattle.pyc_ast.specs.declared.position.Position.{Position}
use Rattle.pyc_ast.specs.Statements.{ClassDefinition, FunctionDefinition, Stmt, StmtForm, Stmts, stmt}
use Rattle.pyc_ast.specs.Statements as plain
use Rattle.pyc_body_context.specs.Bodies.{Body, BodyKind, in_class, in_module}
use Rattle.pyc_body_context.specs.ClassBodies.{class_body, declares_class}
use Rattle.pyc_class_ids.specs.declared.order.UnknownMro.{UnknownMro}
use Rattle.pyc_class_ids.specs.declared.order.UnknownMro.TheVariants as unknown
use Rattle.pyc_class_ids.specs.Class.{Id, user}
use Rattle.pyc_functions.specs.Bodies.{class_body_reading}
use Rattle.pyc_functions.specs.Functions.{function_reading}
use Rattle.pyc_iface.specs.declared.options.Options.{Options}
use Rattle.pyc_messages.specs.Annotations as message
use Rattle.pyc_names.specs.Interfaces.{interface_of}
use Rattle.pyc_names.specs.SourceFiles.{SourceFile}
use Rattle.pyc_overrides.specs.Overrides.{overrides_read}
use Rattle.pyc_reading.specs.Answers.{Answer, order_is}
use Rattle.pyc_reading.specs.Traces.{Step, asking}
use Rattle.pyc_reading.specs.Keys.{class}
use Rattle.pyc_reading.specs.Readings.{Done, Ask, Report, each, ◌>>=◌}

-- ---- the order of a class

-- a class whose order is not known: a cycle, and a merge that fails, are reported; a base of which nothing is known is
-- not
abbrev pub unknown_reported : Position → List ℕ → Option UnknownMro → Step (Unit {0})
unknown_reported at name (Some unknown.Cycle) = Report (message.base_cycle at name) (Done tt)
unknown_reported at name (Some unknown.Merge) = Report (message.no_order at name) (Done tt)
unknown_reported at name _ = Done tt

-- the order that an answer gives, the class itself first: why it is not known is reported
abbrev pub order_reading : Position → List ℕ → Answer → Step (Option (List Id))
order_reading at name (order_is order) = do
  u ← unknown_reported at name order.unknown
  Done (Some order.classes)
order_reading at name _ = Done None

-- the order of a base that is a class of a file
abbrev pub base_reading : Base → Step (Unit {0})
base_reading (class_base (user m x)) = Ask (class (user m x)) (λ answer. Done tt)
base_reading _ = Done tt

-- the orders of its bases, and its own, which is the answer
abbrev pub declared_reading : SourceFile → Position → List ℕ → List Base → Step (Option (List Id))
declared_reading file at name found = do
  u ← each base_reading found
  answer ← asking (class (user file.name name))
  order_reading at name answer

-- a class: its bases, and where it is a class that the file declares its order, which is the answer
abbrev pub class_reading : SourceFile → Position → ClassDefinition → Step (Option (List Id))
class_reading file at head = do
  found ← bases (interface_of file) head.arguments
  if declares_class file at head.name then declared_reading file at head.name found else Done None

-- ---- bodies

-- a body of a file
abbrev pub body_of : Options → SourceFile → BodyKind → Body
body_of options file kind = record { options = options; file = file; kind = kind }

-- the body of its module
abbrev pub module_body : Options → SourceFile → Body
module_body options file = body_of options file in_module

-- the body of the class statement at a position
abbrev pub statement_body : Options → SourceFile → Position → ClassDefinition → Stmts → Body
statement_body options file at head body = body_of options file (in_class (class_body file at head body))

-- ---- definitions

-- what a class that the file declares, with this order, declares as an ancestor does
abbrev pub subclass_reading : SourceFile → List ℕ → Stmts → Option (List Id) → Step (Unit {0})
subclass_reading file name body None = Done tt
subclass_reading file name body (Some order) = overrides_read file name body order

-- a class: its bases and its order, its body, and the names that its ancestors declare as well
unfoldable pub class_statement_reading
    : Options → SourceFile → Position → ClassDefinition → Stmts → Step (Unit {0})
class_statement_reading options file at head body = do
  order ← class_reading file at head
  u ← class_body_reading (statement_body options file at head body) head.suspends body
  subclass_reading file head.name body order

-- a function or a class of the top level of a file
abbrev pub form_reading : Options → SourceFile → Position → StmtForm → Step (Unit {0})
form_reading options file at (plain.function head body) = function_reading (module_body options file) at head body
form_reading options file at (plain.class head body) = class_statement_reading options file at head body
form_reading options file at _ = Done tt

unfoldable pub definition_reading : Options → SourceFile → Stmt → Step (Unit {0})
definition_reading options file (stmt at form) = form_reading options file at form

-- a function that stands in this body
abbrev pub function_in : Body → Stmt → Step (Unit {0})
function_in outside (stmt at (plain.function head body)) = function_reading outside at head body
function_in outside _ = Done tt

-- a method of a class
unfoldable pub method_reading : Options → SourceFile → (class found : Stmt) → Step (Unit {0})
method_reading options file (stmt at (plain.class head body)) found =
    function_in (statement_body options file at head body) found
method_reading options file _ found = Done tt
