-- What functions require.
use Rattle.std.proofs.Common.{◌≡◌, Bool, true, false, [], ◌∷◌, ◌++◌, Option, Some, refl, ap, ◌∙◌, append-nil}
use Rattle.pyc_ast.specs.declared.position.Position.{Position}
use Rattle.pyc_ast.specs.Exprs.{at_of}
use Rattle.pyc_body_context.specs.Bodies as bodies
use Rattle.pyc_body_context.specs.BodyNames.{body_context}
use Rattle.pyc_unit_laws.specs.RequiredRows.{BareReturnIsRequired, DefaultIsRequired, EndIsRequired, ReturnIsRequired}
use Rattle.pyc_expr.specs.Values.{infer_type}
use Rattle.pyc_functions.specs.Ends.{end_read}
use Rattle.pyc_functions.specs.Parameters.{default_read, required_default}
use Rattle.pyc_locals.specs.Locals.{no_locals}
use Rattle.pyc_places.specs.States.{nothing_narrowed}
use Rattle.pyc_expression_laws.specs.Rows.{Answers}
use Rattle.pyc_reading.proofs.ReadingLemmas.{obligations-and_then}
use Rattle.pyc_reading.specs.Traces.{required, owing}
use Rattle.pyc_reading.specs.Readings.{Done, and_then, obligations, result_of}
use Rattle.pyc_simple_statements.specs.Expressions.{part_type}
use Rattle.pyc_simple_statements.specs.Returning.{conclude, none_returned, required_return, result_required, return_required, value_returned}
use Rattle.pyc_type_forms.specs.Types.{Ty, none}

pub default_is_required : DefaultIsRequired
unfolding default_read owing
default_is_required answers outside name want x =
    obligations-and_then answers (infer_type (body_context outside no_locals) nothing_narrowed x (Some want)) (λ got. required (required_default (at_of x) name got want))

-- what is required of a result
result_required-requires_row : (answers : Answers) (at : Position) (is_bare : Bool) (got want : Ty) (result : Option Ty)
    → result ≡ Some want → obligations answers (result_required at is_bare got result) ≡ required_return at is_bare got want ∷ []
unfolding return_required owing
result_required-requires_row answers at is_bare got want result same = ap (λ found. obligations answers (result_required at is_bare got found)) same

pub return_is_required : ReturnIsRequired
unfolding value_returned
return_is_required answers body at x p want same =
    let result = bodies.result_of body.kind in
    let first = part_type body p x result in
    let got = result_of answers first in
    obligations-and_then answers first (λ got. and_then (result_required at false got result) (λ u. Done (conclude p)))
    ∙ ap (λ l. obligations answers first ++ l)
    (obligations-and_then answers (result_required at false got result) (λ u. Done (conclude p))
    ∙ append-nil (obligations answers (result_required at false got result))
    ∙ result_required-requires_row answers at false got want result same)

pub bare_return_is_required : BareReturnIsRequired
unfolding none_returned
bare_return_is_required answers body at p want same =
    let result = bodies.result_of body.kind in
    obligations-and_then answers (result_required at true none result) (λ u. Done (conclude p))
    ∙ append-nil (obligations answers (result_required at true none result))
    ∙ result_required-requires_row answers at true none want result same

pub end_is_required : EndIsRequired
unfolding end_read owing
end_is_required answers at result = refl
