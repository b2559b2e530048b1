-- The bodies of modules and classes (Python reference 3.13, "Class definitions" and "File input").
use Rattle.std.specs.Prelude.{Bool, true, false}
use Rattle.pyc_ast.specs.Modules.{Module}
use Rattle.pyc_ast.specs.Statements.{Stmts}
use Rattle.pyc_bindings.specs.Bindings.{bindings_of}
use Rattle.pyc_blocks.specs.Blocks.{statements_read}
use Rattle.pyc_body_context.specs.Bodies.{Body}
use Rattle.pyc_functions.specs.Functions.{begun}
use Rattle.pyc_functions.specs.Redefined.{redefined_reported}
use Rattle.pyc_locals.specs.Locals.{no_locals}
use Rattle.pyc_reading.specs.Traces.{Step}
use Rattle.pyc_reading.specs.Readings.{Done, ◌>>=◌}
use Rattle.pyc_simple_statements.specs.BodyParts.{body_parts}

-- statements of a body that is no function's, in turn: no name is a local there
unfoldable pub plain_body_read : Body → Stmts → Step (Unit {0})
plain_body_read body statements = do
  p ← statements_read (body_parts body) statements (begun no_locals)
  Done tt

-- the body of a class: its statements, and then the names that it defines again
unfoldable pub class_statements_read : Body → Stmts → Step (Unit {0})
class_statements_read body statements = do
  u ← plain_body_read body statements
  redefined_reported (bindings_of statements)

-- the body of a class by whether it suspends: one that does is skipped
abbrev pub class_body_reading : Body → Bool → Stmts → Step (Unit {0})
class_body_reading body true statements = Done tt
class_body_reading body false statements = class_statements_read body statements

-- the body of a module: one that suspends is skipped. What stands where no run comes is not read; the functions and
-- classes there are units like others
abbrev pub statements_unless : Bool → Body → Stmts → Step (Unit {0})
statements_unless true body statements = Done tt
statements_unless false body statements = plain_body_read body statements

abbrev pub module_body_reading : Body → Module → Step (Unit {0})
module_body_reading body m = statements_unless m.suspends body m.statements
