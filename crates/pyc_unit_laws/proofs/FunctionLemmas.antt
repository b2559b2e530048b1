-- What functions ask.
use Rattle.std.proofs.Common.{◌≡◌, ℕ, Bool, true, false, not, ◌&&◌, if◌then◌else◌, List, [], ◌∷◌, ◌++◌, Option, None, Some, refl, ◌∙◌, append-nil}
use Rattle.pyc_annotations.specs.Annotations.{read_type}
use Rattle.pyc_ast.specs.declared.position.Position.{Position}
use Rattle.pyc_ast.specs.Exprs.{Expr, at_of}
use Rattle.pyc_ast.specs.Statements.{Parameter, Stmts}
use Rattle.pyc_bindings.specs.Bindings.{Binding}
use Rattle.pyc_bindings.specs.Redefinitions.{Redefinition, redefinitions}
use Rattle.pyc_body_context.specs.Bodies.{Body, class_around}
use Rattle.pyc_body_context.specs.Bodies as bodies
use Rattle.pyc_body_context.specs.BodyNames.{body_context}
use Rattle.pyc_unit_laws.proofs.AnnotationLemmas.{annotation_asks}
use Rattle.pyc_unit_laws.proofs.AskedLemmas.{asked-after}
use Rattle.pyc_unit_laws.specs.AnnotationRows.{annotation_keys}
use Rattle.pyc_unit_laws.specs.FunctionRows.{EndReads, FunctionReads, HeadReads, ParameterReads, ReturnReads, default_keys, end_keys, given_keys, head_keys, inside_keys, optional_annotation_keys, parameter_keys, parameters_keys}
use Rattle.pyc_expr.specs.Values.{infer_type}
use Rattle.pyc_functions.specs.Ends.{end_read, is_idle_body, required_end}
use Rattle.pyc_functions.specs.FunctionNames.{function_bindings}
use Rattle.pyc_functions.specs.Functions.{HeadTypes, body_read, function_reading, head_read, inside_read, is_checked, statements_and_end_read}
use Rattle.pyc_functions.specs.Parameters.{ParameterType, default_read, optional_default, required_default, parameter_read, parameter_type, parameters_read, receiver_of}
use Rattle.pyc_functions.specs.Redefined.{redefinition_reading}
use Rattle.pyc_locals.specs.Locals.{no_locals}
use Rattle.pyc_locals.specs.FlowStates.{FlowState}
use Rattle.pyc_names.specs.Interfaces.{Interface, interface_of}
use Rattle.pyc_places.specs.States.{is_reachable, nothing_narrowed}
use Rattle.pyc_expression_laws.proofs.ObligationLemmas.{obligation_asks}
use Rattle.pyc_expression_laws.specs.ObligationRows.{obligation_keys}
use Rattle.pyc_expression_laws.specs.Rows.{Answers}
use Rattle.pyc_reading.specs.Traces.{Step, required}
use Rattle.pyc_reading.specs.Keys.{Key}
use Rattle.pyc_reading.specs.Readings.{Done, and_then, asked, each, result_of}
use Rattle.pyc_signatures.specs.Signatures.{annotated_or, first_type}
use Rattle.pyc_simple_statements.specs.Expressions.{part_type}
use Rattle.pyc_simple_statements.specs.Returning.{conclude, none_returned, required_return, result_required, return_required, value_returned}
use Rattle.pyc_unit_laws.proofs.ImportAskedLemmas.{asked-alone, asked-both}
use Rattle.pyc_type_exprs.specs.TypeExprs.{type_expr}
use Rattle.pyc_type_forms.specs.Types.{Ty, any, none}

-- ---- parameters

annotated-asks : (answers : Answers) (file : Interface) (other : Ty) (e : Option Expr) → asked answers (annotated_or file other e) ≡ optional_annotation_keys answers file e
annotated-asks answers file other (Some e) =
    asked-alone answers (read_type file (type_expr e)) (λ found. Done found.ty) (annotation_keys answers file (type_expr e))
    (annotation_asks answers file (type_expr e)) (λ found. refl)
annotated-asks answers file other None = refl

-- an obligation that is looked at no more closely
default_required-asks : (answers : Answers) (at : Position) (name : List ℕ) (got want : Ty) → asked answers (required (required_default at name got want)) ≡ obligation_keys got want
default_required-asks answers at name got want = obligation_asks answers (required_default at name got want) ∙ append-nil (obligation_keys got want)

default-asks : (answers : Answers) (outside : Body) (name : List ℕ) (want : Ty) (x : Option Expr)
    → asked answers (optional_default outside name want x) ≡ default_keys answers outside want x
unfolding default_read
default-asks answers outside name want (Some x) =
    let first = infer_type (body_context outside no_locals) nothing_narrowed x (Some want) in
    asked-after answers first (λ got. required (required_default (at_of x) name got want)) (asked answers first) (obligation_keys (result_of answers first) want)
    refl (default_required-asks answers (at_of x) name (result_of answers first) want)
default-asks answers outside name want None = refl

pub parameter_asks : ParameterReads
unfolding parameter_read
parameter_asks answers outside receiver p =
    let first = annotated_or (interface_of outside.file) (first_type receiver p.kind) p.annotation in
    let ty = result_of answers first in
    asked-after answers first (λ ty. and_then (optional_default outside p.name ty p.default) (λ u. Done (parameter_type p ty)))
    (optional_annotation_keys answers (interface_of outside.file) p.annotation) (default_keys answers outside ty p.default)
    (annotated-asks answers (interface_of outside.file) (first_type receiver p.kind) p.annotation)
    (asked-alone answers (optional_default outside p.name ty p.default) (λ u. Done (parameter_type p ty)) (default_keys answers outside ty p.default)
    (default-asks answers outside p.name ty p.default) (λ u. refl))

parameters-asks : (answers : Answers) (outside : Body) (receiver : Ty) (found : List ParameterType) (ps : List Parameter)
    → asked answers (parameters_read outside receiver found ps) ≡ parameters_keys answers outside receiver ps
unfolding parameters_read
parameters-asks answers outside receiver found [] = refl
parameters-asks answers outside receiver found (p ∷ rest) =
    asked-both answers (parameter_read outside receiver p) (λ inside. parameters_read outside any (found ++ (inside ∷ [])) rest)
    (parameter_keys answers outside receiver p) (parameters_keys answers outside any rest)
    (parameter_asks answers outside receiver p) (λ inside. parameters-asks answers outside any (found ++ (inside ∷ [])) rest)

-- ---- heads

pub head_asks : HeadReads
unfolding head_read
head_asks answers outside head =
    let receiver = receiver_of (class_around outside.kind) head.decorators in
    let file = interface_of outside.file in
    let returns = optional_annotation_keys answers file head.returns in
    asked-both answers (parameters_read outside receiver [] head.parameters)
    (λ parameters. and_then (annotated_or file any head.returns) (λ result. Done (record { parameters = parameters; result = result })))
    (parameters_keys answers outside receiver head.parameters) returns
    (parameters-asks answers outside receiver [] head.parameters)
    (λ parameters. asked-alone answers (annotated_or file any head.returns) (λ result. Done (record { parameters = parameters; result = result })) returns
    (annotated-asks answers file any head.returns) (λ result. refl))

-- ---- returns and ends

return_required-asks : (answers : Answers) (at : Position) (is_bare : Bool) (got : Ty) (want : Option Ty) → asked answers (result_required at is_bare got want) ≡ given_keys got want
unfolding return_required
return_required-asks answers at is_bare got (Some want) = obligation_asks answers (required_return at is_bare got want) ∙ append-nil (obligation_keys got want)
return_required-asks answers at is_bare got None = refl

pub return_asks : ReturnReads
unfolding value_returned none_returned
return_asks answers body at (Some x) p =
    let want = bodies.result_of body.kind in
    let first = part_type body p x want in
    let got = result_of answers first in
    asked-after answers first (λ got. and_then (result_required at false got want) (λ u. Done (conclude p))) (asked answers first) (given_keys got want) refl
    (asked-alone answers (result_required at false got want) (λ u. Done (conclude p)) (given_keys got want) (return_required-asks answers at false got want) (λ u. refl))
return_asks answers body at None p =
    let want = bodies.result_of body.kind in
    asked-alone answers (result_required at true none want) (λ u. Done (conclude p)) (given_keys none want) (return_required-asks answers at true none want) (λ u. refl)

pub end_asks : EndReads
unfolding end_read
end_asks answers at result true = obligation_asks answers (required_end at none result) ∙ append-nil (obligation_keys none result)
end_asks answers at result false = refl

-- ---- the whole

pub again-asks : (answers : Answers) (again : List Redefinition) → asked answers (each redefinition_reading again) ≡ []
unfolding and_then
again-asks answers [] = refl
again-asks answers (found ∷ rest) = again-asks answers rest

body-asks : (answers : Answers) (outside : Body) (at : Position) (types : HeadTypes) (bindings : List Binding) (statements : Stmts)
    → asked answers (body_read outside at types bindings statements)
    ≡ asked answers (inside_read outside types bindings statements)
    ++ end_keys types.result (is_reachable (result_of answers (inside_read outside types bindings statements)).state && not (is_idle_body statements))
unfolding body_read statements_and_end_read
body-asks answers outside at types bindings statements =
    let inside = inside_read outside types bindings statements in
    let p : FlowState = result_of answers inside in
    let rest = and_then inside (λ (q : FlowState). end_read at types.result (is_reachable q.state && not (is_idle_body statements))) in
    asked-both answers (each redefinition_reading (redefinitions bindings)) (λ u. rest) [] (asked answers rest) (again-asks answers (redefinitions bindings)) (λ u. refl)
    ∙ asked-after answers inside (λ (q : FlowState). end_read at types.result (is_reachable q.state && not (is_idle_body statements)))
    (asked answers inside) (end_keys types.result (is_reachable p.state && not (is_idle_body statements)))
    refl (end_asks answers at types.result (is_reachable p.state && not (is_idle_body statements)))

if_checked-asks : (answers : Answers) (b : Bool) (r : Step (Unit {0})) (keys : List Key) → asked answers r ≡ keys → asked answers (if b then r else Done tt) ≡ (if b then keys else [])
if_checked-asks answers true r keys same = same
if_checked-asks answers false r keys same = refl

pub function_asks : FunctionReads
unfolding function_reading
function_asks answers outside at head statements =
    let checked = is_checked outside.file.is_stub outside.options.check_untyped head in
    let bindings = function_bindings head.parameters statements in
    let types : HeadTypes = result_of answers (head_read outside head) in
    asked-after answers (head_read outside head) (λ types. if checked then body_read outside at types bindings statements else Done tt)
    (head_keys answers outside head) (if checked then inside_keys answers outside head statements else [])
    (head_asks answers outside head)
    (if_checked-asks answers checked (body_read outside at types bindings statements) (inside_keys answers outside head statements)
    (body-asks answers outside at types bindings statements))
