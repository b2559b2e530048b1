-- A function whole: its head, and its body (Python reference 3.13, "Function definitions"; mypy's documentation,
-- "Function signatures and dynamic vs static typing").
use Rattle.std.specs.Prelude.{Bool, not, ◌&&◌, ◌||◌, if◌then◌else◌, is_some, List, []}
use Rattle.std.specs.List.{list_any}
use Rattle.pyc_ast.specs.declared.position.Position.{Position}
use Rattle.pyc_ast.specs.Statements.{FunctionDefinition, Parameter, Stmts}
use Rattle.pyc_bindings.specs.Bindings.{Binding}
use Rattle.pyc_blocks.specs.Blocks.{statements_read}
use Rattle.pyc_body_context.specs.Bodies.{Body, class_around, in_function}
use Rattle.pyc_functions.specs.Ends.{end_read, is_idle_body}
use Rattle.pyc_functions.specs.FunctionNames.{function_bindings, function_locals}
use Rattle.pyc_functions.specs.Parameters.{ParameterType, parameters_read, receiver_of}
use Rattle.pyc_functions.specs.Redefined.{redefined_reported}
use Rattle.pyc_locals.specs.Locals.{Locals}
use Rattle.pyc_locals.specs.FlowStates.{FlowState}
use Rattle.pyc_names.specs.Interfaces.{interface_of}
use Rattle.pyc_places.specs.States.{is_reachable, nothing_narrowed}
use Rattle.pyc_reading.specs.Traces.{Step}
use Rattle.pyc_reading.specs.Readings.{Done, ◌>>=◌}
use Rattle.pyc_signatures.specs.Signatures.{annotated_or}
use Rattle.pyc_simple_statements.specs.BodyParts.{body_parts}
use Rattle.pyc_type_forms.specs.Types.{Ty, any}

-- ---- which bodies are checked

-- whether a function has an annotation
abbrev pub is_annotated : FunctionDefinition → Bool
is_annotated head = is_some head.returns || list_any (λ (p : Parameter). is_some p.annotation) head.parameters

-- whether the body of a function is checked: not one of a stub, nor one that suspends, nor one without annotations
-- unless that is asked for
abbrev pub is_checked : (is_stub check_untyped : Bool) → FunctionDefinition → Bool
is_checked is_stub check_untyped head =
    (not is_stub && not (head.is_async || head.suspends)) && (is_annotated head || check_untyped)

-- ---- bodies

-- where the statements of a body begin, with these locals: nothing is narrowed
abbrev pub begun : Locals → FlowState
begun locals = record { locals = locals; state = nothing_narrowed }

-- what the head of a function says of its body: its parameters, and the type that it gives
pub record HeadTypes : Type 0 where
  pub parameters : List ParameterType
  pub result : Ty

-- a function that stands in this body
module _ (outside : Body) where
  -- the body of a function that gives values of a type
  abbrev pub inside_of : Ty → Body
  inside_of result = record { options = outside.options; file = outside.file; kind = in_function result }

  -- the head of a function: its parameters in turn, and then its result
  unfoldable pub head_read : FunctionDefinition → Step HeadTypes
  head_read head = do
    parameters ← parameters_read outside (receiver_of (class_around outside.kind) head.decorators) [] head.parameters
    result ← annotated_or (interface_of outside.file) any head.returns
    Done (record { parameters = parameters; result = result })

  -- the statements of a function with these bindings, in turn
  abbrev pub inside_read : HeadTypes → List Binding → Stmts → Step FlowState
  inside_read types bindings statements =
      statements_read (body_parts (inside_of types.result)) statements
      (begun (function_locals types.parameters bindings))

  -- the statements of a function that begins at a position, and what its end requires
  unfoldable pub statements_and_end_read : Position → HeadTypes → List Binding → Stmts → Step (Unit {0})
  statements_and_end_read at types bindings statements = do
    p ← inside_read types bindings statements
    end_read at types.result (is_reachable p.state && not (is_idle_body statements))

  -- the body of a function: the names that it defines again, its statements, and its end
  unfoldable pub body_read : Position → HeadTypes → List Binding → Stmts → Step (Unit {0})
  body_read at types bindings statements = do
    u ← redefined_reported bindings
    statements_and_end_read at types bindings statements

  abbrev pub body_if_checked : Bool → Position → HeadTypes → FunctionDefinition → Stmts → Step (Unit {0})
  body_if_checked is_checked at types head statements =
      if is_checked then body_read at types (function_bindings head.parameters statements) statements else Done tt

  -- a function that begins at a position: its head, and its body where that is checked
  unfoldable pub function_reading : Position → FunctionDefinition → Stmts → Step (Unit {0})
  function_reading at head statements = do
    types ← head_read head
    body_if_checked (is_checked outside.file.is_stub outside.options.check_untyped head) at types head statements
