-- What the readings of conditions come to.
use Rattle.std.proofs.Common.{◌≡◌, List, [], refl, sym, ap, ◌∙◌}
use Rattle.pyc_ast.specs.declared.operator.BooleanOperator.TheVariants as joins
use Rattle.pyc_class_ids.specs.Class.{Id}
use Rattle.pyc_narrowing.specs.SplitStates.{SplitStates, swapped, and_states, or_states, instance_states}
use Rattle.pyc_narrowing.specs.Splitting.{Splits, instance_test, not_rule, boolean_rule, and_right, or_right, right_rule}
use Rattle.pyc_narrowing.proofs.Known.{tested_done}
use Rattle.pyc_obligations.specs.Judging.{classes_asked}
use Rattle.pyc_places.specs.Places.{Place}
use Rattle.pyc_places.specs.States.{State}
use Rattle.pyc_reading.proofs.RunLemmas.{runs_are_folds}
use Rattle.pyc_reading.specs.Answers.{Answer}
use Rattle.pyc_reading.specs.Traces.{Step, Trace, run}
use Rattle.pyc_reading.specs.Keys.{Key}
use Rattle.pyc_reading.specs.Owing.{orders_by, written}
use Rattle.pyc_reading.specs.Readings.{Done, Ask, Report, Require, and_then, result_of}
use Rattle.pyc_type_forms.specs.Types.{Ty}

module _ (answers : Key → Answer) where
  -- a reading and then another come to what the second comes to
  pub then_result : {A B : Type 0} (r : Step A) (next : A → Step B) → result_of answers (and_then r next) ≡ result_of answers (next (result_of answers r))
  unfolding and_then
  then_result (Done a) next = refl
  then_result (Ask key go) next = then_result (go (answers key)) next
  then_result (Report diagnostic rest) next = then_result rest next
  then_result (Require row rest) next = then_result rest next

  -- ---- conditions of conditions

  pub not_result : (operand : Splits) (s : State) → result_of answers (not_rule operand s) ≡ swapped (result_of answers (operand s))
  unfolding not_rule
  not_result operand s = then_result (operand s) (λ found. Done (swapped found))

  pub and_result : (left right : Splits) (s : State)
      → result_of answers (boolean_rule joins.And left right s)
      ≡ and_states (result_of answers (left s)) (result_of answers (right (result_of answers (left s)).if_true))
  unfolding boolean_rule and_right
  and_result left right s =
      let first = result_of answers (left s) in
      then_result (left s) (right_rule joins.And right) ∙ then_result (right first.if_true) (λ second. Done (and_states first second))

  pub or_result : (left right : Splits) (s : State)
      → result_of answers (boolean_rule joins.Or left right s)
      ≡ or_states (result_of answers (left s)) (result_of answers (right (result_of answers (left s)).if_false))
  unfolding boolean_rule or_right
  or_result left right s =
      let first = result_of answers (left s) in
      then_result (left s) (right_rule joins.Or right) ∙ then_result (right first.if_false) (λ second. Done (or_states first second))

  -- ---- tests

  -- a reading keeps the answers
  same_answers : {A : Type 0} (r : Step A) (trace : Trace) → (run r trace).1.answers ≡ trace.answers
  same_answers {A} r trace = ap (λ (found : A × Trace). found.1.answers) (runs_are_folds r trace)

  -- a test by classes goes by the orders of the answers
  pub test_result : (s : State) (place : Place) (ty : Ty) (classes : List Id)
      → result_of answers (instance_test s place ty classes) ≡ instance_states (orders_by answers) s place ty classes
  test_result s place ty classes =
      let start : Trace = record { answers = answers; keys = []; messages = [] } in
      let middle : Trace = (run (classes_asked (written ty)) start).1 in
      let end : Trace = (run (classes_asked classes) middle).1 in
      let same : end.answers ≡ answers = same_answers (classes_asked classes) middle ∙ same_answers (classes_asked (written ty)) start in
      let test = instance_test s place ty classes in
      let found : SplitStates = instance_states (orders_by end.answers) s place ty classes in
      sym (ap (λ (done : SplitStates × Trace). done.0) (runs_are_folds test start))
      ∙ ap (λ (done : SplitStates × Trace). done.0) (tested_done s place ty classes start middle end found refl refl same refl)
      ∙ ap (λ a. instance_states (orders_by a) s place ty classes) same
