-- Expressions of which a part is read only where a condition holds, or does not (Python reference 3.13, "Boolean
-- operations" and "Conditional expressions"; typing specification, "Type narrowing").
use Rattle.std.specs.Prelude.{Bool, true, false, if◌then◌else◌, Option, None, Some}
use Rattle.pyc_ast.specs.declared.operator.BooleanOperator.{BooleanOperator}
use Rattle.pyc_ast.specs.declared.operator.BooleanOperator.TheVariants as joins
use Rattle.pyc_ast.specs.Exprs.{Expr, expr, Form, boolean}
use Rattle.pyc_displays.specs.Joins.{and_type, or_type, conditional_type}
use Rattle.pyc_expr_forms.specs.Contexts.{InferValue, type_in, looked_by, infer_freely}
use Rattle.pyc_narrowing.specs.Splitting.{split}
use Rattle.pyc_narrowing.specs.SplitStates.{SplitStates}
use Rattle.pyc_places.specs.States.{State, unreachable, reachable}
use Rattle.pyc_reading.specs.Traces.{Step}
use Rattle.pyc_reading.specs.Readings.{Done, and_then}
use Rattle.pyc_type_forms.specs.Types.{Ty}

unfoldable pub reached_type : InferValue → State → Expr → Option Ty → Step (Option Ty)
reached_type parts s x want = and_then (type_in parts s x want) (λ ty. Done (Some ty))

-- the type of a part in a state: none where no run comes, and there it is not read
abbrev pub type_where : InferValue → State → Expr → Option Ty → Step (Option Ty)
type_where parts unreachable x want = Done None
type_where parts (reachable narrowings) x want = reached_type parts (reachable narrowings) x want

-- ---- `and` and `or`

-- the type of `and` or `or`, by those of its sides
abbrev pub joined_type : BooleanOperator → Ty → Option Ty → Ty
joined_type joins.And left right = and_type left right
joined_type joins.Or left right = or_type left right

-- the right side of `and` is read where the left side holds, and that of `or` where it does not
abbrev pub right_side_state : BooleanOperator → SplitStates → State
right_side_state joins.And states = states.if_true
right_side_state joins.Or states = states.if_false

-- a chain so far: its type, and the state in which what stands to the right of it is read
pub record Chain : Type 0 where
  pub ty : Ty
  pub state : State

-- a side of this type, by what it says in a state
unfoldable pub infer_side : InferValue → State → BooleanOperator → Expr → Ty → Step Chain
infer_side parts s operator x ty =
    and_then (split (looked_by parts) s x) (λ states. Done (record
    { ty = ty; state = right_side_state operator states }))

-- the first side of a chain
unfoldable pub first_side : InferValue → State → Option Ty → BooleanOperator → Expr → Step Chain
first_side parts s want operator x = and_then (type_in parts s x want) (infer_side parts s operator x)

-- the type with a side more, which is read in a state
unfoldable pub infer_with_side : InferValue → State → Option Ty → BooleanOperator → Expr → Ty → Step Ty
infer_with_side parts s want operator y left =
    and_then (type_where parts s y want) (λ right. Done (joined_type operator left right))

abbrev pub last_side : InferValue → Option Ty → BooleanOperator → Expr → Chain → Step Ty
last_side parts want operator y left = infer_with_side parts left.state want operator y left.ty

-- a side of a chain, after which the chain goes on
unfoldable pub next_side : InferValue → Option Ty → BooleanOperator → Expr → Chain → Step Chain
next_side parts want operator y left =
    and_then (last_side parts want operator y left) (infer_side parts left.state operator y)

abbrev pub same_operator : BooleanOperator → BooleanOperator → Bool
same_operator joins.And joins.And = true
same_operator joins.Or joins.Or = true
same_operator _ _ = false

abbrev mutual
  -- what stands to the left of an operator: each side of a chain of that operator is read once, from left to right, in
  -- the state in which the sides before it leave it to be read
  pub infer_chain : InferValue → State → Option Ty → BooleanOperator → Expr → Step Chain
  infer_chain parts s want operator (expr at inside form) =
      chained_form parts s want operator (expr at inside form) form

  pub chained_form : InferValue → State → Option Ty → BooleanOperator → Expr → Form → Step Chain
  chained_form parts s want operator whole (boolean inner x y) =
      if same_operator operator inner then and_then (infer_chain parts s want operator x)
      (next_side parts want operator y)
      else first_side parts s want operator whole
  chained_form parts s want operator whole form = first_side parts s want operator whole

unfoldable pub boolean_type : InferValue → State → Option Ty → BooleanOperator → (left right : Expr) → Step Ty
boolean_type parts s want operator x y =
    and_then (infer_chain parts s want operator x) (last_side parts want operator y)

-- ---- conditional expressions

-- the arm that is read where the condition does not hold, by the type of the other
unfoldable pub orelse_type : InferValue → State → Option Ty → Expr → Option Ty → Step Ty
orelse_type parts s want y body = and_then (type_where parts s y want) (λ orelse. Done (conditional_type body orelse))

-- the arms, in the states of the condition
unfoldable pub arms_type : InferValue → Option Ty → (body orelse : Expr) → SplitStates → Step Ty
arms_type parts want x y states =
    and_then (type_where parts states.if_true x want) (orelse_type parts states.if_false want y)

unfoldable pub choice_type : InferValue → State → Option Ty → (test body orelse : Expr) → Step Ty
choice_type parts s want test x y =
    and_then (infer_freely parts s test) (λ u.
    and_then (split (looked_by parts) s test) (arms_type parts want x y))
