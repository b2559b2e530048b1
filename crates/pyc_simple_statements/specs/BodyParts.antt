-- The parts of the statements of a body that are no blocks (Python reference 3.13, "Simple statements" and "Compound
-- statements").
use Rattle.std.specs.Prelude.{ℕ, List}
use Rattle.pyc_assignments.specs.Assignments.{assignment, annotated_assignment}
use Rattle.pyc_ast.specs.declared.position.Position.{Position}
use Rattle.pyc_ast.specs.Statements.{StmtForm}
use Rattle.pyc_ast.specs.Statements as plain
use Rattle.pyc_blocks.specs.Parts.{PartReads}
use Rattle.pyc_body_context.specs.Bodies.{Body, BodyKind, in_module, in_class, in_function}
use Rattle.pyc_body_context.specs.BodyTargets.{body_reads, declares}
use Rattle.pyc_imports.specs.LocalImports.{local_import_read, class_import_read, module_import_bound}
use Rattle.pyc_locals.specs.Locals.{bound}
use Rattle.pyc_locals.specs.FlowStates.{FlowState, name_bound}
use Rattle.pyc_names.specs.Interfaces.{interface_of}
use Rattle.pyc_reading.specs.Traces.{Step}
use Rattle.pyc_reading.specs.Readings.{Done}
use Rattle.pyc_simple_statements.specs.Augmented.{augmented_read}
use Rattle.pyc_simple_statements.specs.Deleting.{deleted}
use Rattle.pyc_simple_statements.specs.Expressions.{expression_read, check_test}
use Rattle.pyc_simple_statements.specs.Heads.{turn_begun, caught_read, items_read}
use Rattle.pyc_simple_statements.specs.Raising.{raised, asserted}
use Rattle.pyc_simple_statements.specs.Returning.{returned}
use Rattle.pyc_type_forms.specs.Types.{any}

-- a function and a class bind their names to Any
abbrev pub definition_bound : List ℕ → FlowState → FlowState
definition_bound x p = name_bound x (bound any) p

-- an import, by the kind of its body: those of a module are read in the header of its file
abbrev pub import_by : Body → BodyKind → Position → StmtForm → FlowState → Step FlowState
import_by body in_module at form p = Done (module_import_bound form p)
import_by body (in_class own) at form p = class_import_read body.options (interface_of body.file) at form p
import_by body (in_function result) at form p = local_import_read body.options (interface_of body.file) at form p

module _ (body : Body) where
  -- a simple statement or a definition at a position, by its form; a function and a class bind their names to Any
  abbrev pub simple_read : Position → StmtForm → FlowState → Step FlowState
  simple_read at (plain.expression x) p = expression_read body x p
  simple_read at (plain.assign targets value) p = assignment (body_reads body) targets value p
  simple_read at (plain.annotate found) p =
      annotated_assignment (body_reads body) (declares body at found.target) found p
  simple_read at (plain.augment found) p = augmented_read body found p
  simple_read at (plain.return x) p = returned body at x p
  simple_read at (plain.raise exception cause) p = raised body exception cause p
  simple_read at (plain.assert test message) p = asserted body test message p
  simple_read at (plain.delete to) p = deleted body to p
  simple_read at (plain.function head inside) p = Done (definition_bound head.name p)
  simple_read at (plain.class head inside) p = Done (definition_bound head.name p)
  simple_read at (plain.import modules) p = import_by body body.kind at (plain.import modules) p
  simple_read at (plain.import_from from) p = import_by body body.kind at (plain.import_from from) p
  simple_read at form p = Done p

-- what the parts of statements are in a body
abbrev pub body_parts : Body → PartReads
body_parts body =
    record {
      simple = simple_read body;
      check_test = check_test body;
      turn = turn_begun body;
      caught = caught_read body;
      items = items_read body;
    }
