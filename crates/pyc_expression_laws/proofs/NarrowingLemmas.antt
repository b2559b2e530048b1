-- What conditions ask, where to look at each of their parts asks files alone.
use Rattle.std.proofs.Common.{Bool, true, false, ◌&&◌, List, [], ◌∷◌, ◌++◌, Option, None, Some}
use Rattle.pyc_ast.specs.declared.operator.BooleanOperator.{BooleanOperator}
use Rattle.pyc_ast.specs.declared.operator.BooleanOperator.TheVariants as joins
use Rattle.pyc_ast.specs.declared.operator.UnaryOperator.{UnaryOperator}
use Rattle.pyc_ast.specs.declared.operator.UnaryOperator.TheVariants as changes
use Rattle.pyc_ast.specs.Exprs.{Argument, Arguments, Comparison, Comparisons, Element, Elements, Expr, Form, another_argument, another_comparison, another_element, argument, boolean, call, compare, comparison, constant, element, expr, no_argument, no_comparison, no_element, tuple, unary}
use Rattle.pyc_class_ids.specs.Class.{Id}
use Rattle.pyc_narrowing.specs.Splitting.{InferOperand, Splits, and_right, boolean_rule, call_rule, call_result, callee_rule, class_at, classes_at, compared_with_none, comparison_rule, form_rule, if_class, if_reachable, instance_test, is_none_literal, is_positional, isinstance_rule, item_class, look_quietly, more_classes, none_rule, not_rule, one_class, one_comparison, or_right, pair_rule, place_rule, right_rule, sense_of, sense_rule, split, test_by, truth_rule, two_arguments, unary_rule}
use Rattle.pyc_narrowing.specs.SplitStates.{SplitStates}
use Rattle.pyc_obligations.specs.Values.{SpecialForm, isinstance_special_form}
use Rattle.pyc_places.specs.Places.{Place, place_of}
use Rattle.pyc_places.specs.States.{State, reachable, unreachable}
use Rattle.pyc_reading.specs.Traces.{Step}
use Rattle.pyc_reading.specs.Owing.{written}
use Rattle.pyc_expression_laws.proofs.ObligationKeyLemmas.{of-known_after, of-quiet}
use Rattle.pyc_expression_laws.proofs.StepLemmas.{Files, files_done, files_if, files_then}
use Rattle.pyc_type_forms.specs.Types.{Ty}

-- ---- joined conditions

of-unary_rule : (operator : UnaryOperator) (operand : Splits) → ((s : State) → Files (operand s)) → (s : State) → Files (unary_rule operator operand s)
unfolding not_rule
of-unary_rule changes.Not operand splits s = files_then _ _ (splits s) (λ found. files_done)
of-unary_rule _ operand splits s = files_done

of-right_rule : (operator : BooleanOperator) (right : Splits) → ((s : State) → Files (right s)) → (first : SplitStates) → Files (right_rule operator right first)
unfolding and_right or_right
of-right_rule joins.And right splits first = files_then _ _ (splits first.if_true) (λ second. files_done)
of-right_rule joins.Or right splits first = files_then _ _ (splits first.if_false) (λ second. files_done)

of-boolean_rule : (operator : BooleanOperator) (left right : Splits) → ((s : State) → Files (left s)) → ((s : State) → Files (right s)) → (s : State)
    → Files (boolean_rule operator left right s)
unfolding boolean_rule
of-boolean_rule operator left right first second s = files_then _ _ (first s) (of-right_rule operator right second)

of-if_reachable : (s : State) (found : Step SplitStates) → Files found → Files (if_reachable s found)
of-if_reachable (reachable narrowings) found all = all
of-if_reachable unreachable found all = files_done

module _ (look : InferOperand) (looks : (s : State) (x : Expr) → Files (look s x)) where
  of-look_quietly : (s : State) (x : Expr) → Files (look_quietly look s x)
  unfolding look_quietly
  of-look_quietly s x = files_then _ _ (of-quiet (look s x) (looks s x)) (λ heard. files_done)

  -- ---- classes

  of-class_at : (s : State) (x : Expr) → Files (class_at look s x)
  unfolding class_at
  of-class_at s x = files_then _ _ (of-look_quietly s x) (λ found. files_done)

  of-item_class : (s : State) (x : Element) → Files (item_class look s x)
  of-item_class s (element true x) = files_done
  of-item_class s (element false x) = of-class_at s x

  of-if_class : (class : Option Id) (go : Id → Step (Option (List Id))) → ((c : Id) → Files (go c)) → Files (if_class class go)
  of-if_class (Some c) go all = all c
  of-if_class None go all = files_done

  of-more_classes : (s : State) (found : List Id) (items : Elements) → Files (more_classes look s found items)
  unfolding more_classes
  of-more_classes s found no_element = files_done
  of-more_classes s found (another_element x rest) =
      files_then _ _ (of-item_class s x) (λ class. of-if_class class _ (λ c. of-more_classes s (found ++ (c ∷ [])) rest))

  of-one_class : (s : State) (x : Expr) → Files (one_class look s x)
  unfolding one_class
  of-one_class s x = files_then _ _ (of-class_at s x) (λ class. files_done)

  of-classes_at : (s : State) (x : Expr) → Files (classes_at look s x)
  of-classes_at s (expr at inside (tuple items)) = of-more_classes s [] items
  of-classes_at s x = of-one_class s x

  -- ---- `isinstance`

  of-test_by : (s : State) (place : Place) (ty : Ty) (classes : Option (List Id)) → Files (test_by s place ty classes)
  unfolding instance_test
  of-test_by s place ty (Some classes) = files_then _ _ (of-known_after (written ty ++ classes) _) (λ orders. files_done)
  of-test_by s place ty None = files_done

  of-call_result : (s : State) (place : Place) (tested classes : Expr) (special_form : SpecialForm) → Files (call_result look s place tested classes special_form)
  unfolding isinstance_rule
  of-call_result s place tested classes isinstance_special_form =
      files_then _ _ (of-look_quietly s tested) (λ found. files_then _ _ (of-classes_at s classes) (of-test_by s place found.ty))
  of-call_result s place tested classes _ = files_done

  of-pair_rule : (s : State) (callee tested classes : Expr) (place : Option Place) → Files (pair_rule look s callee tested classes place)
  unfolding callee_rule
  of-pair_rule s callee tested classes (Some place) = files_then _ _ (of-look_quietly s callee) (λ found. of-call_result s place tested classes found.special_form)
  of-pair_rule s callee tested classes None = files_done

  of-two_arguments : (s : State) (callee : Expr) (first second : Argument) → Files (two_arguments look s callee first second)
  of-two_arguments s callee (argument at kind tested) (argument other more classes) =
      files_if (is_positional kind && is_positional more) _ _ (of-pair_rule s callee tested classes (place_of tested)) files_done

  of-call_rule : (s : State) (callee : Expr) (given : Arguments) → Files (call_rule look s callee given)
  of-call_rule s callee (another_argument first (another_argument second no_argument)) = of-two_arguments s callee first second
  of-call_rule s callee _ = files_done

  -- ---- comparisons with None, and places

  of-sense_rule : (s : State) (sense : Bool) (x : Expr) (place : Option Place) → Files (sense_rule look s sense x place)
  unfolding none_rule
  of-sense_rule s sense x (Some place) = files_then _ _ (of-look_quietly s x) (λ found. files_done)
  of-sense_rule s sense x None = files_done

  of-compared_with_none : (s : State) (x : Expr) (sense : Option Bool) → Files (compared_with_none look s x sense)
  of-compared_with_none s x (Some sense) = of-sense_rule s sense x (place_of x)
  of-compared_with_none s x None = files_done

  of-one_comparison : (s : State) (x : Expr) (found : Comparison) → Files (one_comparison look s x found)
  of-one_comparison s x (comparison operator right) = files_if (is_none_literal right) _ _ (of-compared_with_none s x (sense_of operator)) files_done

  of-comparison_rule : (s : State) (x : Expr) (rest : Comparisons) → Files (comparison_rule look s x rest)
  of-comparison_rule s x (another_comparison found no_comparison) = of-one_comparison s x found
  of-comparison_rule s x _ = files_done

  of-place_rule : (s : State) (x : Expr) (place : Option Place) → Files (place_rule look s x place)
  unfolding truth_rule
  of-place_rule s x (Some place) = files_then _ _ (of-look_quietly s x) (λ found. files_done)
  of-place_rule s x None = files_done

  -- ---- conditions

  mutual
    pub of-split : (s : State) (x : Expr) → Files (split look s x)
    of-split s (expr at inside form) = of-if_reachable s _ (of-form_rule s (expr at inside form) form)

    of-form_rule : (s : State) (whole : Expr) (form : Form) → Files (form_rule look s whole form)
    of-form_rule s whole (constant found) = files_done
    of-form_rule s whole (unary operator x) = of-unary_rule operator (λ t. split look t x) (λ t. of-split t x) s
    of-form_rule s whole (boolean operator x y) =
        of-boolean_rule operator (λ t. split look t x) (λ t. split look t y) (λ t. of-split t x) (λ t. of-split t y) s
    of-form_rule s whole (call callee given) = of-call_rule s callee given
    of-form_rule s whole (compare x rest) = of-comparison_rule s x rest
    of-form_rule s whole form = of-place_rule s whole (place_of whole)
