-- What operators ask, where the calls of their methods ask files alone.
use Rattle.std.proofs.Common.{ℕ, ◌||◌, List, [], ◌∷◌, Option, None, Some, refl}
use Rattle.pyc_ast.specs.declared.operator.ComparisonOperator.{ComparisonOperator}
use Rattle.pyc_ast.specs.declared.operator.Operator.{Operator}
use Rattle.pyc_ast.specs.declared.operator.UnaryOperator.{UnaryOperator}
use Rattle.pyc_ast.specs.declared.position.Position.{Position}
use Rattle.pyc_class_ids.specs.Class.{Id, builtin, user}
use Rattle.pyc_operators.specs.Binary.{binary, check_comparison, check_if_ordered, finish_union, infer_operation, compare_in_order}
use Rattle.pyc_operators.specs.Messages.{wrong_operand, wrong_operands}
use Rattle.pyc_operators.specs.Methods.{Caller, class_method, method_of}
use Rattle.pyc_operators.specs.Operations.{method_name, order_comparison, unary_method, unary_operation}
use Rattle.pyc_operators.specs.Pairs.{infer_by_both_sorts, infer_by_method, given_by_sorts, infer_by_left_sort, infer_pair}
use Rattle.pyc_operators.specs.Results.{Results, no_results, pairs_of, pairs_of_left, with_result}
use Rattle.pyc_operators.specs.Sorts.{instance_sort, is_any, operand_sort, sort_of}
use Rattle.pyc_operators.specs.Unary as one
use Rattle.pyc_operators.specs.Unary.{unary, unary_by}
use Rattle.pyc_reading.specs.Answers.{MemberAnswer}
use Rattle.pyc_expression_laws.proofs.ObligationKeyLemmas.{of-ask_member}
use Rattle.pyc_expression_laws.proofs.StepLemmas.{Files, files_ask, files_done, files_if, files_report, files_then}
use Rattle.pyc_type_forms.specs.Types.{Ty, instance}
use Rattle.pyc_type_forms.specs.Unions.{items_of}

-- ---- operands

of-instance_sort : (c : Id) → Files (instance_sort c)
of-instance_sort (builtin c) = files_done
of-instance_sort (user m x) = files_ask refl (λ answer. files_done)

of-operand_sort : (ty : Ty) → Files (operand_sort ty)
of-operand_sort (instance c) = of-instance_sort c
of-operand_sort _ = files_done

of-class_method : (c : Id) (name : List ℕ) → Files (class_method c name)
of-class_method (builtin c) name = files_done
of-class_method (user m x) name = of-ask_member m x name

of-method_of : (ty : Ty) (name : List ℕ) → Files (method_of ty name)
of-method_of (instance c) name = of-class_method c name
of-method_of _ name = files_done

module _ (call : Caller) (calls : (method : MemberAnswer) (types : List Ty) → Files (call method types)) where
  -- ---- two operands

  of-infer_by_method : (given : _) (left right : Ty) (found : Option MemberAnswer) → Files (infer_by_method call given left right found)
  unfolding infer_by_method
  of-infer_by_method given left right (Some method) = calls method (right ∷ [])
  of-infer_by_method given left right None = files_done

  of-infer_by_both_sorts : (operation : _) (left right : Ty) (left_sort right_sort : _) → Files (infer_by_both_sorts call operation left right left_sort right_sort)
  unfolding infer_by_both_sorts
  of-infer_by_both_sorts operation left right left_sort right_sort =
      files_if (is_any right_sort) _ _ files_done
      (files_then _ _ (of-method_of left (method_name operation)) (of-infer_by_method (given_by_sorts operation left right left_sort right_sort) left right))

  of-infer_by_left_sort : (operation : _) (left right : Ty) (left_sort : _) → Files (infer_by_left_sort call operation left right left_sort)
  unfolding infer_by_left_sort
  of-infer_by_left_sort operation left right left_sort =
      files_if (is_any left_sort) _ _ files_done (files_then _ _ (of-operand_sort right) (of-infer_by_both_sorts operation left right left_sort))

  of-infer_pair : (operation : _) (left right : Ty) → Files (infer_pair call operation left right)
  unfolding infer_pair
  of-infer_pair operation left right =
      files_if (is_any (sort_of left) || is_any (sort_of right)) _ _ files_done
      (files_then _ _ (of-operand_sort left) (of-infer_by_left_sort operation left right))

  of-pairs_of_left : (operation : _) (before : Results) (left : Ty) (rights : List Ty) → Files (pairs_of_left call operation before left rights)
  unfolding pairs_of_left
  of-pairs_of_left operation before left [] = files_done
  of-pairs_of_left operation before left (right ∷ rights) =
      files_then _ _ (of-infer_pair operation left right) (λ found. of-pairs_of_left operation (with_result before found) left rights)

  of-pairs_of : (operation : _) (before : Results) (lefts rights : List Ty) → Files (pairs_of call operation before lefts rights)
  unfolding pairs_of
  of-pairs_of operation before [] rights = files_done
  of-pairs_of operation before (left ∷ lefts) rights =
      files_then _ _ (of-pairs_of_left operation before left rights) (λ found. of-pairs_of operation found lefts rights)

  of-finish_union : (at : Position) (operation : _) (left right : Ty) (results : Results) → Files (finish_union at operation left right results)
  unfolding finish_union wrong_operands
  of-finish_union at operation left right results = files_if results.is_failed _ _ (files_report files_done) files_done

  of-infer_operation : (at : Position) (operation : _) (left right : Ty) → Files (infer_operation call at operation left right)
  unfolding infer_operation
  of-infer_operation at operation left right =
      files_then _ _ (of-pairs_of operation no_results (items_of left) (items_of right)) (of-finish_union at operation left right)

  pub of-binary : (at : Position) (operator : Operator) (left right : Ty) → Files (binary call at operator left right)
  of-binary at operator left right = of-infer_operation at _ left right

  of-check_if_ordered : (at : Position) (comparison : _) (left right : Ty) → Files (check_if_ordered call at comparison left right)
  unfolding compare_in_order
  of-check_if_ordered at (Some comparison) left right = files_then _ _ (of-infer_operation at _ left right) (λ ty. files_done)
  of-check_if_ordered at None left right = files_done

  pub of-check_comparison : (at : Position) (operator : ComparisonOperator) (left right : Ty) → Files (check_comparison call at operator left right)
  of-check_comparison at operator left right = of-check_if_ordered at (order_comparison operator) left right

  -- ---- one operand

  of-one_by_method : (operation : _) (operand : Ty) (sort : _) (found : Option MemberAnswer) → Files (one.infer_by_method call operation operand sort found)
  unfolding one.infer_by_method
  of-one_by_method operation operand sort (Some method) = calls method []
  of-one_by_method operation operand sort None = files_done

  of-infer_by_sort : (operation : _) (operand : Ty) (sort : _) → Files (one.infer_by_sort call operation operand sort)
  unfolding one.infer_by_sort
  of-infer_by_sort operation operand sort =
      files_if (is_any sort) _ _ files_done (files_then _ _ (of-method_of operand (unary_method operation)) (of-one_by_method operation operand sort))

  of-each_item : (operation : _) (before : Results) (operands : List Ty) → Files (one.each_item call operation before operands)
  unfolding one.each_item one.one_item
  of-each_item operation before [] = files_done
  of-each_item operation before (operand ∷ operands) =
      files_then _ _ (files_then _ _ (of-operand_sort operand) (of-infer_by_sort operation operand)) (λ found. of-each_item operation (with_result before found) operands)

  of-one_ended : (at : Position) (operation : _) (operand : Ty) (results : Results) → Files (one.finish_union at operation operand results)
  unfolding one.finish_union wrong_operand
  of-one_ended at operation operand results = files_if results.is_failed _ _ (files_report files_done) files_done

  of-unary_by : (at : Position) (operation : _) (operand : Ty) → Files (unary_by call at operation operand)
  unfolding one.infer_operation
  of-unary_by at (Some operation) operand =
      files_then _ _ (of-each_item operation no_results (items_of operand)) (of-one_ended at operation operand)
  of-unary_by at None operand = files_done

  pub of-unary : (at : Position) (operator : UnaryOperator) (operand : Ty) → Files (unary call at operator operand)
  of-unary at operator operand = of-unary_by at (unary_operation operator) operand
