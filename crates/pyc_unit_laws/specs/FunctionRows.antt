-- What a function asks (Python reference 3.13, "Function definitions" and "The return statement"; typing specification,
-- "Type annotations" and "Callables").
use Rattle.std.specs.Prelude.{◌≡◌, Bool, not, ◌&&◌, if◌then◌else◌, List, [], ◌∷◌, ◌++◌, Option, None, Some}
use Rattle.pyc_ast.specs.declared.position.Position.{Position}
use Rattle.pyc_ast.specs.Exprs.{Expr}
use Rattle.pyc_ast.specs.Statements.{FunctionDefinition, Parameter, Stmts}
use Rattle.pyc_body_context.specs.Bodies.{Body, class_around}
use Rattle.pyc_body_context.specs.Bodies as bodies
use Rattle.pyc_body_context.specs.BodyNames.{body_context}
use Rattle.pyc_unit_laws.specs.AnnotationRows.{annotation_keys}
use Rattle.pyc_expr.specs.Values.{infer_type}
use Rattle.pyc_functions.specs.Ends.{end_read, is_idle_body}
use Rattle.pyc_functions.specs.FunctionNames.{function_bindings}
use Rattle.pyc_functions.specs.Functions.{function_reading, head_read, inside_read, is_checked}
use Rattle.pyc_functions.specs.Parameters.{parameter_read, receiver_of}
use Rattle.pyc_locals.specs.Locals.{no_locals}
use Rattle.pyc_locals.specs.FlowStates.{FlowState}
use Rattle.pyc_names.specs.Interfaces.{Interface, interface_of}
use Rattle.pyc_places.specs.States.{is_reachable, nothing_narrowed}
use Rattle.pyc_expression_laws.specs.ObligationRows.{obligation_keys}
use Rattle.pyc_expression_laws.specs.Rows.{Answers}
use Rattle.pyc_reading.specs.Traces.{Step}
use Rattle.pyc_reading.specs.Keys.{Key}
use Rattle.pyc_reading.specs.Readings.{asked, result_of}
use Rattle.pyc_signatures.specs.Signatures.{annotated_or, first_type}
use Rattle.pyc_simple_statements.specs.Expressions.{part_type}
use Rattle.pyc_simple_statements.specs.Returning.{returned}
use Rattle.pyc_type_exprs.specs.TypeExprs.{type_expr}
use Rattle.pyc_type_forms.specs.Types.{Ty, any, none}

-- ---- parameters

-- an annotation that may be absent
abbrev pub optional_annotation_keys : Answers → Interface → Option Expr → List Key
optional_annotation_keys answers file (Some e) = annotation_keys answers file (type_expr e)
optional_annotation_keys answers file None = []

-- the default of a parameter of a type in a function that stands in a body: what the expression asks there, and then
-- whether its type is assignable to that of the parameter
abbrev pub default_keys : Answers → Body → Ty → Option Expr → List Key
default_keys answers outside want (Some x) =
    asked answers (infer_type (body_context outside no_locals) nothing_narrowed x (Some want))
    ++ obligation_keys
    (result_of answers (infer_type (body_context outside no_locals) nothing_narrowed x (Some want))) want
default_keys answers outside want None = []

-- the type of a parameter, the first of which is what the function is called on, by the answers
abbrev pub type_at : Answers → Body → Ty → Parameter → Ty
type_at answers outside receiver p =
    result_of answers (annotated_or (interface_of outside.file) (first_type receiver p.kind) p.annotation)

-- a parameter: its annotation, and then its default
abbrev pub parameter_keys : Answers → Body → Ty → Parameter → List Key
parameter_keys answers outside receiver p =
    optional_annotation_keys answers (interface_of outside.file) p.annotation
    ++ default_keys answers outside (type_at answers outside receiver p) p.default

-- parameters in turn; the function is called on the first of them alone
abbrev pub parameters_keys : Answers → Body → Ty → List Parameter → List Key
parameters_keys answers outside receiver [] = []
parameters_keys answers outside receiver (p ∷ rest) =
    parameter_keys answers outside receiver p ++ parameters_keys answers outside any rest

-- the law of parameters
abbrev pub ParameterReads : Type 0
ParameterReads =
    (answers : Answers) (outside : Body) (receiver : Ty) (p : Parameter)
    → asked answers (parameter_read outside receiver p) ≡ parameter_keys answers outside receiver p

-- ---- heads

-- the head of a function: its parameters in turn, and then the annotation of its result
abbrev pub head_keys : Answers → Body → FunctionDefinition → List Key
head_keys answers outside head =
    parameters_keys answers outside (receiver_of (class_around outside.kind) head.decorators) head.parameters
    ++ optional_annotation_keys answers (interface_of outside.file) head.returns

-- the law of heads
abbrev pub HeadReads : Type 0
HeadReads =
    (answers : Answers) (outside : Body) (head : FunctionDefinition)
    → asked answers (head_read outside head) ≡ head_keys answers outside head

-- ---- returns

-- what a function gives: whether its type is assignable to that of the result; outside functions nothing
abbrev pub given_keys : Ty → Option Ty → List Key
given_keys got (Some want) = obligation_keys got want
given_keys got None = []

-- a `return`: what its value asks, where it has one, and then what giving that asks; a bare one gives None
abbrev pub return_keys : Answers → Body → Option Expr → FlowState → List Key
return_keys answers body (Some x) p =
    asked answers (part_type body p x (bodies.result_of body.kind))
    ++ given_keys (result_of answers (part_type body p x (bodies.result_of body.kind))) (bodies.result_of body.kind)
return_keys answers body None p = given_keys none (bodies.result_of body.kind)

-- the law of returns
abbrev pub ReturnReads : Type 0
ReturnReads =
    (answers : Answers) (body : Body) (at : Position) (x : Option Expr) (p : FlowState)
    → asked answers (returned body at x p) ≡ return_keys answers body x p

-- ---- ends

-- the end of a function: where a run comes to it, whether None is assignable to the type of the result
abbrev pub end_keys : Ty → Bool → List Key
end_keys result is_reached = if is_reached then obligation_keys none result else []

-- the law of ends
abbrev pub EndReads : Type 0
EndReads =
    (answers : Answers) (at : Position) (result : Ty) (is_reached : Bool)
    → asked answers (end_read at result is_reached) ≡ end_keys result is_reached

-- ---- the whole

-- the statements of a function with this head
abbrev pub inside_of : Answers → Body → FunctionDefinition → Stmts → Step FlowState
inside_of answers outside head statements =
    inside_read outside (result_of answers (head_read outside head)) (function_bindings head.parameters statements)
    statements

-- the body of a function: its statements, and its end, unless no run comes to it or the body is a stub
abbrev pub inside_keys : Answers → Body → FunctionDefinition → Stmts → List Key
inside_keys answers outside head statements =
    asked answers (inside_of answers outside head statements)
    ++ end_keys (result_of answers (head_read outside head)).result
    (is_reachable (result_of answers (inside_of answers outside head statements)).state
    && not (is_idle_body statements))

-- the law of functions: the head, and then the body, where that is checked
abbrev pub FunctionReads : Type 0
FunctionReads =
    (answers : Answers) (outside : Body) (at : Position) (head : FunctionDefinition) (statements : Stmts)
    → asked answers (function_reading outside at head statements)
    ≡ head_keys answers outside head
    ++ (if is_checked outside.file.is_stub outside.options.check_untyped head
    then inside_keys answers outside head statements else [])
