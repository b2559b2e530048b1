-- What a `return` gives (Python reference 3.13, "The return statement"; typing specification, "Type system concepts").
use Rattle.std.specs.Prelude.{ℕ, Bool, true, false, List, [], Option, None, Some}
use Rattle.pyc_ast.specs.declared.position.Position.{Position}
use Rattle.pyc_ast.specs.Exprs.{Expr}
use Rattle.pyc_body_context.specs.Bodies.{Body, result_of}
use Rattle.pyc_locals.specs.FlowStates.{FlowState, in_state}
use Rattle.pyc_messages.specs.Functions as message
use Rattle.pyc_places.specs.States.{unreachable}
use Rattle.pyc_reading.specs.Traces.{Step, required}
use Rattle.pyc_reading.specs.Owing.{Obligation}
use Rattle.pyc_reading.specs.Readings.{Done, ◌>>=◌}
use Rattle.pyc_report.specs.declared.message.ObligationKind.TheVariants as obligation_kind
use Rattle.pyc_simple_statements.specs.Expressions.{part_type}
use Rattle.pyc_type_forms.specs.Text.{text_of}
use Rattle.pyc_type_forms.specs.Types.{Ty, none}

-- ---- what is reported

-- the text on a value of another type than its function gives: nothing is to be returned where that is None
abbrev pub value_text : (got want : Ty) → List ℕ
value_text got none = message.no_return_value_text
value_text got want = message.wrong_return_text (text_of got) (text_of want)

-- the text on a `return`, by whether it is bare
abbrev pub return_text : Bool → (got want : Ty) → List ℕ
return_text true got want = message.return_value_text
return_text false got want = value_text got want

-- ---- obligations

-- what a `return` at a position gives must be of the type of the function's result; a bare one gives None
abbrev pub required_return : Position → Bool → (got want : Ty) → Obligation
required_return at is_bare got want =
    record {
      obligation_kind = obligation_kind.Return;
      at = at;
      got = got;
      want = want;
      details = [];
      text = return_text is_bare got want;
    }

unfoldable pub return_required : Position → Bool → (got want : Ty) → Step (Unit {0})
return_required at is_bare got want = required (required_return at is_bare got want)

-- outside functions nothing is required
abbrev pub result_required : Position → Bool → Ty → Option Ty → Step (Unit {0})
result_required at is_bare got (Some want) = return_required at is_bare got want
result_required at is_bare got None = Done tt

-- ---- the whole

-- no run goes on
abbrev pub conclude : FlowState → FlowState
conclude p = in_state p unreachable

module _ (body : Body) where
  -- a value is read with the type of the result
  unfoldable pub value_returned : Position → Expr → FlowState → Step FlowState
  value_returned at x p = do
    got ← part_type body p x (result_of body.kind)
    u ← result_required at false got (result_of body.kind)
    Done (conclude p)

  unfoldable pub none_returned : Position → FlowState → Step FlowState
  none_returned at p = do
    u ← result_required at true none (result_of body.kind)
    Done (conclude p)

  abbrev pub returned : Position → Option Expr → FlowState → Step FlowState
  returned at (Some x) p = value_returned at x p
  returned at None p = none_returned at p
