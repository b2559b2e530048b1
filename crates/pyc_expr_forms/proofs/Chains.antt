-- A chain goes on in the state that all of it leaves, taken as one condition.
use Rattle.std.proofs.Common.{◌≡◌, Option, refl, ap, sym, ◌∙◌}
use Rattle.pyc_ast.specs.declared.operator.BooleanOperator.{BooleanOperator}
use Rattle.pyc_ast.specs.declared.operator.BooleanOperator.TheVariants as joins
use Rattle.pyc_ast.specs.declared.position.Position.{Position}
use Rattle.pyc_ast.specs.Exprs as form
use Rattle.pyc_ast.specs.Exprs.{Expr, expr, Form}
use Rattle.pyc_expr_forms.specs.Choices.{Chain, infer_chain, chained_form, first_side, next_side, last_side, infer_side, right_side_state}
use Rattle.pyc_expr_forms.specs.Contexts.{InferValue, type_in, looked_by}
use Rattle.pyc_narrowing.specs.Splitting.{Splits, split, right_rule, and_right, or_right, boolean_rule}
use Rattle.pyc_narrowing.specs.SplitStates.{SplitStates, and_states, or_states}
use Rattle.pyc_places.specs.States.{State, unreachable, reachable}
use Rattle.pyc_reading.specs.Answers.{Answer}
use Rattle.pyc_reading.specs.Traces.{Step}
use Rattle.pyc_reading.specs.Keys.{Key}
use Rattle.pyc_reading.specs.Readings.{Done, Ask, Report, Require, and_then, result_of}
use Rattle.pyc_type_forms.specs.Types.{Ty}

module _ (answers : Key → Answer) where
  -- what one reading after another comes to
  then_result : {A B : Type 0} (r : Step A) (next : A → Step B) → result_of answers (and_then r next) ≡ result_of answers (next (result_of answers r))
  unfolding and_then
  then_result (Done a) next = refl
  then_result (Ask key go) next = then_result (go (answers key)) next
  then_result (Report diagnostic rest) next = then_result rest next
  then_result (Require row rest) next = then_result rest next

  -- ---- what a condition says

  split_on : (operator : BooleanOperator) (f g : Splits) (s : State)
      → right_side_state operator (result_of answers (boolean_rule operator f g s)) ≡ right_side_state operator (result_of answers (g (right_side_state operator (result_of answers (f s)))))
  unfolding boolean_rule and_right or_right
  split_on joins.And f g s =
      let first = result_of answers (f s) in
      ap (λ (found : SplitStates). found.if_true) (then_result (f s) (right_rule joins.And g) ∙ then_result (g first.if_true) (λ second. Done (and_states first second)))
  split_on joins.Or f g s =
      let first = result_of answers (f s) in
      ap (λ (found : SplitStates). found.if_false) (then_result (f s) (right_rule joins.Or g) ∙ then_result (g first.if_false) (λ second. Done (or_states first second)))

  nowhere : (parts : InferValue) (operator : BooleanOperator) (x : Expr) → right_side_state operator (result_of answers (split (looked_by parts) unreachable x)) ≡ unreachable
  nowhere parts joins.And (expr at inside found) = refl
  nowhere parts joins.Or (expr at inside found) = refl

  -- ---- what a chain says

  said_state : (parts : InferValue) (s : State) (operator : BooleanOperator) (x : Expr) (ty : Ty)
      → (result_of answers (infer_side parts s operator x ty)).state ≡ right_side_state operator (result_of answers (split (looked_by parts) s x))
  unfolding infer_side
  said_state parts s operator x ty = ap (λ (found : Chain). found.state) (then_result (split (looked_by parts) s x) (λ states. Done (record { ty = ty; state = right_side_state operator states })))

  first_state : (parts : InferValue) (s : State) (want : Option Ty) (operator : BooleanOperator) (x : Expr)
      → (result_of answers (first_side parts s want operator x)).state ≡ right_side_state operator (result_of answers (split (looked_by parts) s x))
  unfolding first_side
  first_state parts s want operator x =
      ap (λ (found : Chain). found.state) (then_result (type_in parts s x want) (infer_side parts s operator x)) ∙ said_state parts s operator x _

  next_state : (parts : InferValue) (want : Option Ty) (operator : BooleanOperator) (y : Expr) (left : Chain)
      → (result_of answers (next_side parts want operator y left)).state ≡ right_side_state operator (result_of answers (split (looked_by parts) left.state y))
  unfolding next_side
  next_state parts want operator y left =
      ap (λ (found : Chain). found.state) (then_result (last_side parts want operator y left) (infer_side parts left.state operator y)) ∙ said_state parts left.state operator y _

  -- a chain and a side more
  more_state : (parts : InferValue) (s : State) (want : Option Ty) (operator : BooleanOperator) (x y : Expr)
      → (result_of answers (infer_chain parts s want operator x)).state ≡ right_side_state operator (result_of answers (split (looked_by parts) s x))
      → (result_of answers (and_then (infer_chain parts s want operator x) (next_side parts want operator y))).state
      ≡ right_side_state operator (result_of answers (split (looked_by parts) (right_side_state operator (result_of answers (split (looked_by parts) s x))) y))
  more_state parts s want operator x y known =
      ap (λ (found : Chain). found.state) (then_result (infer_chain parts s want operator x) (next_side parts want operator y))
      ∙ next_state parts want operator y (result_of answers (infer_chain parts s want operator x))
      ∙ ap (λ (t : State). right_side_state operator (result_of answers (split (looked_by parts) t y))) known

  -- a condition of two sides goes on where the second does
  whole_state : (parts : InferValue) (operator : BooleanOperator) (s : State) (at inside : Position) (x y : Expr)
      → right_side_state operator (result_of answers (split (looked_by parts) s (expr at inside (form.boolean operator x y))))
      ≡ right_side_state operator (result_of answers (split (looked_by parts) (right_side_state operator (result_of answers (split (looked_by parts) s x))) y))
  whole_state parts operator (reachable narrowings) at inside x y = split_on operator (λ t. split (looked_by parts) t x) (λ t. split (looked_by parts) t y) (reachable narrowings)
  whole_state parts operator unreachable at inside x y =
      nowhere parts operator (expr at inside (form.boolean operator x y))
      ∙ sym (ap (λ (t : State). right_side_state operator (result_of answers (split (looked_by parts) t y))) (nowhere parts operator x) ∙ nowhere parts operator y)

  mutual
    pub chain_state : (parts : InferValue) (s : State) (want : Option Ty) (operator : BooleanOperator) (x : Expr)
        → (result_of answers (infer_chain parts s want operator x)).state ≡ right_side_state operator (result_of answers (split (looked_by parts) s x))
    chain_state parts s want operator (expr at inside found) = form_state parts s want operator at inside found

    form_state : (parts : InferValue) (s : State) (want : Option Ty) (operator : BooleanOperator) (at inside : Position) (found : Form)
        → (result_of answers (chained_form parts s want operator (expr at inside found) found)).state
        ≡ right_side_state operator (result_of answers (split (looked_by parts) s (expr at inside found)))
    form_state parts s want joins.And at inside (form.boolean joins.And x y) =
        more_state parts s want joins.And x y (chain_state parts s want joins.And x) ∙ sym (whole_state parts joins.And s at inside x y)
    form_state parts s want joins.Or at inside (form.boolean joins.Or x y) =
        more_state parts s want joins.Or x y (chain_state parts s want joins.Or x) ∙ sym (whole_state parts joins.Or s at inside x y)
    form_state parts s want joins.And at inside (form.boolean joins.Or x y) = first_state parts s want joins.And _
    form_state parts s want joins.Or at inside (form.boolean joins.And x y) = first_state parts s want joins.Or _
    form_state parts s want operator at inside (form.name x) = first_state parts s want operator _
    form_state parts s want operator at inside (form.constant x) = first_state parts s want operator _
    form_state parts s want operator at inside (form.string_annotation x) = first_state parts s want operator _
    form_state parts s want operator at inside (form.tuple x) = first_state parts s want operator _
    form_state parts s want operator at inside (form.list x) = first_state parts s want operator _
    form_state parts s want operator at inside (form.set x) = first_state parts s want operator _
    form_state parts s want operator at inside (form.dict x) = first_state parts s want operator _
    form_state parts s want operator at inside (form.unchecked x) = first_state parts s want operator _
    form_state parts s want operator at inside (form.attribute x y) = first_state parts s want operator _
    form_state parts s want operator at inside (form.call x y) = first_state parts s want operator _
    form_state parts s want operator at inside (form.subscript x y) = first_state parts s want operator _
    form_state parts s want operator at inside (form.unary x y) = first_state parts s want operator _
    form_state parts s want operator at inside (form.binary x y z) = first_state parts s want operator _
    form_state parts s want operator at inside (form.compare x y) = first_state parts s want operator _
    form_state parts s want operator at inside (form.conditional x y z) = first_state parts s want operator _
    form_state parts s want operator at inside (form.await x) = first_state parts s want operator _
    form_state parts s want operator at inside (form.yield x) = first_state parts s want operator _
    form_state parts s want operator at inside (form.yield_from x) = first_state parts s want operator _
