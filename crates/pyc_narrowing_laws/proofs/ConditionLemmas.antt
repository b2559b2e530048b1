-- What the states after a condition keep.
use Rattle.std.proofs.Common.{◌≡◌, ℕ, zero, suc, ◌==◌, Bool, true, false, not, ◌&&◌, if◌then◌else◌, List, [], ◌∷◌, Option, None, Some, inl, inr, refl, sym, ◌∙◌, subst, ne_eqb, arith}
use Rattle.std.proofs.lemmas.Bool.{false≢true, not_from_false, true≢false}
use Rattle.pyc_ast.specs.declared.constant.Constant.{Constant}
use Rattle.pyc_ast.specs.declared.constant.Constant.TheVariants as constant
use Rattle.pyc_ast.specs.declared.expr.ArgumentKind.{ArgumentKind}
use Rattle.pyc_ast.specs.declared.expr.ArgumentKind.TheVariants as given
use Rattle.pyc_ast.specs.declared.operator.BooleanOperator.{BooleanOperator}
use Rattle.pyc_ast.specs.declared.operator.BooleanOperator.TheVariants as joins
use Rattle.pyc_ast.specs.declared.operator.ComparisonOperator.{ComparisonOperator}
use Rattle.pyc_ast.specs.declared.operator.UnaryOperator.{UnaryOperator}
use Rattle.pyc_ast.specs.declared.operator.UnaryOperator.TheVariants as changes
use Rattle.pyc_ast.specs.declared.position.Position.{Position}
use Rattle.pyc_ast.specs.Exprs.{Expr, expr, Form, call, unary, boolean, compare, Argument, argument, Arguments, no_argument, another_argument, comparison, Comparison, Comparisons, no_comparison, another_comparison}
use Rattle.pyc_ast.specs.Exprs as form
use Rattle.pyc_class_ids.specs.Class.{Id}
use Rattle.pyc_class_ids.specs.Mro.{MroTable}
use Rattle.pyc_names.specs.declared.fixed.FixedName.TheVariants as fixed
use Rattle.pyc_narrowing.specs.SplitStates.{SplitStates, unchanged, always, never, literal_states, digit_states, truth_states, none_of, none_states, in_sense, swapped, and_states, or_states, instance_states}
use Rattle.pyc_narrowing.specs.Splitting.{InferOperand, Splits, look_quietly, classes_at, split, form_rule, unary_rule, boolean_rule, place_rule, truth_rule, split_typed_place, comparison_rule, one_comparison, compared_with_none, sense_rule, none_rule, is_none_literal, sense_of, call_rule, two_arguments, is_positional, pair_rule, callee_rule, call_result, isinstance_rule, test_by}
use Rattle.pyc_narrowing_laws.specs.ConditionLaws.{SplitKeeps}
use Rattle.pyc_narrowing_laws.specs.TestLaws.{state_where, MeetsWhere, IsReported}
use Rattle.pyc_narrowing_laws.specs.Conditions.{DigitComesTo, LiteralComesTo, TruthComesTo, PlaceComesTo, ComparisonComesTo, two_given, CallComesTo, UnaryComesTo, BooleanComesTo, right_state, ComesTo, FormComesTo, LooksRightly, found_at, states_after}
use Rattle.pyc_narrowing_laws.specs.StateLaws.{Values, Meets}
use Rattle.pyc_narrowing_laws.specs.Values.{Value, is_none_value, is_of}
use Rattle.pyc_narrowing_laws.proofs.ReadingLemmas.{then_result, not_result, and_result, or_result, test_result}
use Rattle.pyc_narrowing_laws.proofs.StateLemmas.{left-met, right-met}
use Rattle.pyc_narrowing_laws.proofs.TestLemmas.{truth_keeps, comparison_keeps, instance_test_keeps}
use Rattle.pyc_obligations.specs.Values.{SpecialForm, plain_special_form, fixed_special_form, reveal_type_special_form, isinstance_special_form}
use Rattle.pyc_obligations.specs.Values as found
use Rattle.pyc_places.specs.Places.{Place, place_of}
use Rattle.pyc_places.specs.States.{State, unreachable, reachable}
use Rattle.pyc_reading.specs.Answers.{Answer}
use Rattle.pyc_reading.specs.Traces.{Step}
use Rattle.pyc_reading.specs.Keys.{Key}
use Rattle.pyc_reading.specs.Owing.{orders_by}
use Rattle.pyc_reading.specs.Readings.{Done, and_then, result_of}
use Rattle.pyc_type_forms.specs.Types.{Ty}

swapped-where : (b : Bool) (found : SplitStates) → state_where b (swapped found) ≡ state_where (not b) found
swapped-where true found = refl
swapped-where false found = refl

sense-where : (b sense : Bool) (found : SplitStates) → state_where b (in_sense sense found) ≡ state_where (if sense then b else not b) found
sense-where b true found = refl
sense-where b false found = swapped-where b found

module _ (answers : Key → Answer) (look : InferOperand) (values : Values) where
  abbrev orders : MroTable
  orders = orders_by answers

  abbrev Met : State → Type 0
  Met = Meets orders values

  abbrev MetWhere : Bool → SplitStates → Type 0
  MetWhere = MeetsWhere orders values

  abbrev come : Step SplitStates → SplitStates
  come = result_of answers

  unchanged-met : (b : Bool) (s : State) → Met s → MetWhere b (unchanged s)
  unchanged-met true s met = met
  unchanged-met false s met = met

  -- ---- literals

  always-met : (b : Bool) (s : State) → b ≡ true → Met s → MetWhere b (always s)
  always-met true s is met = met
  always-met false s is met = absurd (false≢true is)

  never-met : (b : Bool) (s : State) → b ≡ false → Met s → MetWhere b (never s)
  never-met true s is met = absurd (true≢false is)
  never-met false s is met = met

  digit-met : (b : Bool) (s : State) (digit : Option ℕ) → Met s → DigitComesTo b digit → MetWhere b (digit_states s digit)
  digit-met b s None met comes = unchanged-met b s met
  digit-met b s (Some zero) met comes = never-met b s comes met
  digit-met b s (Some (suc n)) met comes = by_one (suc n == 1)
    where
      by_zero : (zeros : Bool) → zeros ≡ false → MetWhere b (if zeros then never s else unchanged s)
      by_zero true is = absurd (true≢false is)
      by_zero false is = unchanged-met b s met

      by_one : (one : Bool) → MetWhere b (if one then always s else if suc n == 0 then never s else unchanged s)
      by_one true = always-met b s comes met
      by_one false = by_zero (suc n == 0) (ne_eqb (suc n) 0 (λ same. omega (arith, same)))

  literal-met : (b : Bool) (s : State) (c : Constant) → Met s → LiteralComesTo b c → MetWhere b (literal_states s c)
  literal-met b s constant.True met comes = always-met b s comes met
  literal-met b s constant.False met comes = never-met b s comes met
  literal-met b s constant.None met comes = never-met b s comes met
  literal-met b s (constant.Integer digit) met comes = digit-met b s digit met comes
  literal-met b s c met comes = unchanged-met b s met

  -- ---- places

  split_typed_place-met : (b : Bool) (s : State) (place : Place) (ty : Ty) (special_form : SpecialForm) → Met s → is_of orders (values place) ty ≡ true
      → TruthComesTo b (values place) special_form → MetWhere b (split_typed_place s place ty special_form)
  split_typed_place-met b s place ty (fixed_special_form fixed.TypeChecking) met here comes = always-met b s comes met
  split_typed_place-met b s place ty special_form met here comes = truth_keeps orders values b s place ty (met, here) comes

  module _ (right : LooksRightly answers look values) where
    place-met : (b : Bool) (s : State) (x : Expr) → Met s → PlaceComesTo answers look values b s x → MetWhere b (come (place_rule look s x (place_of x)))
    unfolding truth_rule
    place-met b s x met comes = by_place (place_of x) refl
      where
        by_place : (place : Option Place) → place_of x ≡ place → MetWhere b (come (place_rule look s x place))
        by_place None is = unchanged-met b s met
        by_place (Some place) is =
            let f = found_at answers look s x in
            subst (λ found. MetWhere b found) (sym (then_result answers (look_quietly look s x) (λ found. Done (split_typed_place s place found.ty found.special_form))))
            (split_typed_place-met b s place f.ty f.special_form met (right s x place met is) (comes place is))

    -- ---- comparisons with None

    comparison-met : (b : Bool) (s : State) (x : Expr) (rest : Comparisons) → Met s → ComparisonComesTo values b x rest
        → MetWhere b (come (comparison_rule look s x rest))
    unfolding none_rule
    comparison-met b s x no_comparison met comes = unchanged-met b s met
    comparison-met b s x (another_comparison first (another_comparison second rest)) met comes = unchanged-met b s met
    comparison-met b s x (another_comparison (comparison operator y) no_comparison) met comes = by_literal (is_none_literal y) refl
      where
        by_place : (sense : Bool) → sense_of operator ≡ Some sense → is_none_literal y ≡ true → (place : Option Place) → place_of x ≡ place
            → MetWhere b (come (sense_rule look s sense x place))
        by_place sense its literal None is = unchanged-met b s met
        by_place sense its literal (Some place) is =
            let f = found_at answers look s x in
            subst (λ found. MetWhere b found) (sym (then_result answers (look_quietly look s x) (λ found. Done (in_sense sense (none_states s place found.ty)))))
            (subst Met (sym (sense-where b sense (none_states s place f.ty)))
            (subst (λ c. MetWhere c (none_states s place f.ty)) (sym (comes place operator y sense is refl literal its))
            (comparison_keeps orders values s place f.ty (met, right s x place met is))))

        by_sense : is_none_literal y ≡ true → (sense : Option Bool) → sense_of operator ≡ sense → MetWhere b (come (compared_with_none look s x sense))
        by_sense literal None its = unchanged-met b s met
        by_sense literal (Some sense) its = by_place sense its literal (place_of x) refl

        by_literal : (literal : Bool) → is_none_literal y ≡ literal
            → MetWhere b (come (if literal then compared_with_none look s x (sense_of operator) else Done (unchanged s)))
        by_literal true literal = by_sense literal (sense_of operator) refl
        by_literal false literal = unchanged-met b s met

    -- ---- `isinstance`

    module _ (reported : (place : Place) → IsReported orders (values place)) where
      call-met : (b : Bool) (s : State) (callee : Expr) (given : Arguments) → Met s → CallComesTo answers look values b s callee given
          → MetWhere b (come (call_rule look s callee given))
      unfolding callee_rule isinstance_rule
      call-met b s callee no_argument met comes = unchanged-met b s met
      call-met b s callee (another_argument first no_argument) met comes = unchanged-met b s met
      call-met b s callee (another_argument first (another_argument second (another_argument third rest))) met comes = unchanged-met b s met
      call-met b s callee (another_argument (argument at given.Positional x) (another_argument (argument other given.Positional y) no_argument)) met comes =
          by_place (place_of x) refl
        where
          by_classes : (place : Place) → place_of x ≡ Some place → (found_at answers look s callee).special_form ≡ isinstance_special_form
              → (classes : Option (List Id)) → result_of answers (classes_at look s y) ≡ classes
              → MetWhere b (come (test_by s place (found_at answers look s x).ty classes))
          by_classes place is special_form None found = unchanged-met b s met
          by_classes place is special_form (Some classes) found =
              subst (λ states. MetWhere b states) (sym (test_result answers s place (found_at answers look s x).ty classes))
              (instance_test_keeps orders values b s place (found_at answers look s x).ty classes (reported place) met
              (comes at other x y place classes refl is special_form found))

          by_special_form : (place : Place) → place_of x ≡ Some place → (special_form : SpecialForm) → (found_at answers look s callee).special_form ≡ special_form
              → MetWhere b (come (call_result look s place x y special_form))
          by_special_form place is isinstance_special_form special_form =
              let ty = (found_at answers look s x).ty in
              subst (λ states. MetWhere b states)
              (sym (then_result answers (look_quietly look s x) (λ found. and_then (classes_at look s y) (test_by s place found.ty))
              ∙ then_result answers (classes_at look s y) (test_by s place ty)))
              (by_classes place is special_form (result_of answers (classes_at look s y)) refl)
          by_special_form place is special_form its = unchanged-met b s met

          by_place : (place : Option Place) → place_of x ≡ place → MetWhere b (come (pair_rule look s callee x y place))
          by_place None is = unchanged-met b s met
          by_place (Some place) is =
              subst (λ states. MetWhere b states)
              (sym (then_result answers (look_quietly look s callee) (λ found. call_result look s place x y found.special_form)))
              (by_special_form place is (found_at answers look s callee).special_form refl)
      call-met b s callee (another_argument (argument at given.Positional x) (another_argument (argument other kind y) no_argument)) met comes =
          unchanged-met b s met
      call-met b s callee (another_argument (argument at kind x) (another_argument (argument other more y) no_argument)) met comes =
          unchanged-met b s met

      -- ---- conditions of conditions

      unary-met : (b : Bool) (operator : UnaryOperator) (operand : Splits) (s : State) (Comes : Bool → Type 0) → Met s → UnaryComesTo b operator Comes
          → ((c : Bool) → Comes c → MetWhere c (come (operand s))) → MetWhere b (come (unary_rule operator operand s))
      unary-met b changes.Not operand s Comes met comes keep =
          subst (λ states. MetWhere b states) (sym (not_result answers operand s))
          (subst Met (sym (swapped-where b (come (operand s)))) (keep (not b) comes))
      unary-met b operator operand s Comes met comes keep = unchanged-met b s met

      boolean-met : (b : Bool) (operator : BooleanOperator) (first second : Splits) (s : State) (Left Right : Bool → Type 0)
          → BooleanComesTo b operator Left Right
          → ((c : Bool) → Left c → MetWhere c (come (first s)))
          → ((c : Bool) → Met (right_state operator (come (first s))) → Right c
          → MetWhere c (come (second (right_state operator (come (first s))))))
          → MetWhere b (come (boolean_rule operator first second s))
      boolean-met true joins.And first second s Left Right comes left right =
          subst (λ states. MetWhere true states) (sym (and_result answers first second s)) (right true (left true comes.0) comes.1)
      boolean-met false joins.And first second s Left Right comes left right =
          let one = come (first s) in
          let other = come (second one.if_true) in
          subst (λ states. MetWhere false states) (sym (and_result answers first second s)) (elim comes [
            | inl refused ↦ left-met orders values one.if_false other.if_false (left false refused)
            | inr both ↦ right-met orders values one.if_false other.if_false (right false (left true both.0) both.1)
          ])
      boolean-met true joins.Or first second s Left Right comes left right =
          let one = come (first s) in
          let other = come (second one.if_false) in
          subst (λ states. MetWhere true states) (sym (or_result answers first second s)) (elim comes [
            | inl accepted ↦ left-met orders values one.if_true other.if_true (left true accepted)
            | inr both ↦ right-met orders values one.if_true other.if_true (right true (left false both.0) both.1)
          ])
      boolean-met false joins.Or first second s Left Right comes left right =
          subst (λ states. MetWhere false states) (sym (or_result answers first second s)) (right false (left false comes.0) comes.1)

      -- ---- the whole

      mutual
        split-met : (b : Bool) (s : State) (x : Expr) → Met s → ComesTo answers look values b s x → MetWhere b (states_after answers look s x)
        split-met b unreachable x met comes = absurd met
        split-met b (reachable narrowings) (expr at inside found) met comes =
            form-met b (reachable narrowings) (expr at inside found) found met comes

        form-met : (b : Bool) (s : State) (whole : Expr) (found : Form) → Met s → FormComesTo answers look values b s whole found
            → MetWhere b (come (form_rule look s whole found))
        form-met b s whole (form.constant found) met comes = literal-met b s found met comes
        form-met b s whole (unary operator x) met comes =
            unary-met b operator (λ t. split look t x) s (λ c. ComesTo answers look values c s x) met comes (λ c so. split-met c s x met so)
        form-met b s whole (boolean operator x y) met comes =
            let next = right_state operator (states_after answers look s x) in
            boolean-met b operator (λ t. split look t x) (λ t. split look t y) s (λ c. ComesTo answers look values c s x)
            (λ c. ComesTo answers look values c next y) comes (λ c so. split-met c s x met so) (λ c there so. split-met c next y there so)
        form-met b s whole (call callee given) met comes = call-met b s callee given met comes
        form-met b s whole (compare x rest) met comes = comparison-met b s x rest met comes
        form-met b s whole found met comes = place-met b s whole met comes

pub split_keeps : SplitKeeps
split_keeps answers look values reported right b s x met comes = split-met answers look values right reported b s x met comes
