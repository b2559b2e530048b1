-- What a function requires (Python reference 3.13, "Function definitions" and "The return statement"; typing
-- specification, "Type system concepts"): each of these is required, whether it holds or not.
use Rattle.std.specs.Prelude.{◌≡◌, ℕ, true, false, List, [], ◌∷◌, ◌++◌, None, Some}
use Rattle.pyc_ast.specs.declared.position.Position.{Position}
use Rattle.pyc_ast.specs.Exprs.{Expr, at_of}
use Rattle.pyc_body_context.specs.Bodies.{Body}
use Rattle.pyc_body_context.specs.Bodies as bodies
use Rattle.pyc_body_context.specs.BodyNames.{body_context}
use Rattle.pyc_expr.specs.Values.{infer_type}
use Rattle.pyc_functions.specs.Ends.{end_read, required_end}
use Rattle.pyc_functions.specs.Parameters.{default_read, required_default}
use Rattle.pyc_locals.specs.Locals.{no_locals}
use Rattle.pyc_locals.specs.FlowStates.{FlowState}
use Rattle.pyc_places.specs.States.{nothing_narrowed}
use Rattle.pyc_expression_laws.specs.Rows.{Answers}
use Rattle.pyc_reading.specs.Readings.{obligations, result_of}
use Rattle.pyc_simple_statements.specs.Expressions.{part_type}
use Rattle.pyc_simple_statements.specs.Returning.{required_return, returned}
use Rattle.pyc_type_forms.specs.Types.{Ty, none}

-- a default has to be assignable to the type of its parameter, after what reading it requires
abbrev pub DefaultIsRequired : Type 0
DefaultIsRequired =
    (answers : Answers) (outside : Body) (name : List ℕ) (want : Ty) (x : Expr)
    → obligations answers (default_read outside name want x)
    ≡ obligations answers (infer_type (body_context outside no_locals) nothing_narrowed x (Some want))
    ++ (required_default (at_of x) name
    (result_of answers (infer_type (body_context outside no_locals) nothing_narrowed x (Some want))) want
    ∷ [])

-- in a function the value of a `return` has to be assignable to the type of the result, after what reading it requires
abbrev pub ReturnIsRequired : Type 0
ReturnIsRequired =
    (answers : Answers) (body : Body) (at : Position) (x : Expr) (p : FlowState) (want : Ty)
    → bodies.result_of body.kind ≡ Some want
    → obligations answers (returned body at (Some x) p)
    ≡ obligations answers (part_type body p x (bodies.result_of body.kind))
    ++ (required_return at false (result_of answers (part_type body p x (bodies.result_of body.kind))) want ∷ [])

-- of a bare one None is required
abbrev pub BareReturnIsRequired : Type 0
BareReturnIsRequired =
    (answers : Answers) (body : Body) (at : Position) (p : FlowState) (want : Ty)
    → bodies.result_of body.kind ≡ Some want
    → obligations answers (returned body at None p) ≡ required_return at true none want ∷ []

-- at the end of a function to which a run comes None is required
abbrev pub EndIsRequired : Type 0
EndIsRequired =
    (answers : Answers) (at : Position) (result : Ty)
    → obligations answers (end_read at result true) ≡ required_end at none result ∷ []
