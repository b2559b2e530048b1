-- What expressions ask, where the names and the annotations in them ask files alone.
use Rattle.std.proofs.Common.{ℕ, zero, suc, List, Option}
use Rattle.pyc_ast.specs.declared.position.Position.{Position}
use Rattle.pyc_ast.specs.Exprs.{Expr, Form, Index, expr}
use Rattle.pyc_ast.specs.Exprs as form
use Rattle.pyc_expr.specs.Parts.{argument_list, dict_item_list, element_list}
use Rattle.pyc_expr.specs.Values.{any_after, infer_form, infer_by_parts, choice_by_form, condition, infer, infer_index, infer_type, most_depth, infer_operation_form, read_by, infer_type_form, value_at_depth}
use Rattle.pyc_expr_forms.specs.Contexts.{Context, InferValue, infer_freely, type_in}
use Rattle.pyc_expr_forms.specs.Subscripting.{infer_optional}
use Rattle.pyc_expression_laws.proofs.DisplayLemmas.{of-dict_display, of-list_display, of-set_display, of-tuple_display}
use Rattle.pyc_expression_laws.proofs.FormLemmas.{of-attribute_value, of-binary_type, of-boolean_type, of-call_type, of-choice_type, of-compare_type, of-index_type, of-name_value, of-infer_freely, of-infer_optional, of-plainly, of-split_by, of-subscript_type, of-type_in, of-unary_type}
use Rattle.pyc_expression_laws.proofs.StepLemmas.{Files, files_done, files_then}
use Rattle.pyc_places.specs.States.{State, reachable, unreachable}
use Rattle.pyc_reading.specs.Traces.{Step}
use Rattle.pyc_type_forms.specs.Types.{Ty}

of-any_after : (read : Step (Unit {0})) → Files read → Files (any_after read)
unfolding any_after
of-any_after read all = files_then _ _ all (λ u. files_done)

module _ (context : Context) (names : (at : Position) (x : List ℕ) → Files (context.resolve_name at x)) (annotations : (x : Expr) → Files (context.annotated x)) where
  module _ (parts : InferValue) (all : (s : State) (x : Expr) (want : Option Ty) → Files (parts s x want)) where
    of-choice_by_form : (s : State) (want : Option Ty) (found : Form) → Files (choice_by_form parts s want found)
    of-choice_by_form s want (form.boolean operator x y) = of-boolean_type parts all s want operator x y
    of-choice_by_form s want (form.conditional test x y) = of-choice_type parts all s want test x y
    of-choice_by_form s want (form.await x) = of-any_after (infer_freely parts s x) (of-infer_freely parts all s x)
    of-choice_by_form s want (form.yield x) = of-any_after (infer_optional parts s x) (of-infer_optional parts all s x)
    of-choice_by_form s want (form.yield_from x) = of-any_after (infer_freely parts s x) (of-infer_freely parts all s x)
    of-choice_by_form s want _ = files_done

    of-infer_operation_form : (s : State) (at : Position) (want : Option Ty) (found : Form) → Files (infer_operation_form context parts s at want found)
    of-infer_operation_form s at want (form.call callee given) = of-call_type parts all context annotations s at callee (argument_list given)
    of-infer_operation_form s at want (form.subscript x brackets) = of-subscript_type parts all s at x brackets
    of-infer_operation_form s at want (form.unary operator x) = of-unary_type parts all s at operator x
    of-infer_operation_form s at want (form.binary operator x y) = of-binary_type parts all s at operator x y
    of-infer_operation_form s at want (form.compare x rest) = of-compare_type parts all s at x rest
    of-infer_operation_form s at want other = of-choice_by_form s want other

    of-infer_type_form : (s : State) (at : Position) (want : Option Ty) (found : Form) → Files (infer_type_form context parts s at want found)
    of-infer_type_form s at want (form.constant found) = files_done
    of-infer_type_form s at want (form.string_annotation x) = files_done
    of-infer_type_form s at want (form.unchecked found) = files_done
    of-infer_type_form s at want (form.tuple items) = of-tuple_display (type_in parts s) (of-type_in parts all s) (element_list items) want
    of-infer_type_form s at want (form.list items) = of-list_display (type_in parts s) (of-type_in parts all s) (element_list items) want
    of-infer_type_form s at want (form.set items) = of-set_display (type_in parts s) (of-type_in parts all s) (element_list items) want
    of-infer_type_form s at want (form.dict items) = of-dict_display (type_in parts s) (of-type_in parts all s) (dict_item_list items) want
    of-infer_type_form s at want other = of-infer_operation_form s at want other

    of-infer_form : (s : State) (whole : Expr) (at : Position) (want : Option Ty) (found : Form) → Files (infer_form context parts s whole at want found)
    of-infer_form s whole at want (form.name x) = of-name_value context s whole at x (names at x)
    of-infer_form s whole at want (form.attribute x n) = of-attribute_value parts all s whole at x n
    of-infer_form s whole at want other = of-plainly (infer_type_form context parts s at want other) (of-infer_type_form s at want other)

    of-infer_by_parts : (s : State) (x : Expr) (want : Option Ty) → Files (infer_by_parts context parts s x want)
    of-infer_by_parts unreachable x want = files_done
    of-infer_by_parts (reachable narrowings) (expr at inside found) want = of-infer_form (reachable narrowings) (expr at inside found) inside want found

  of-value_at_depth : (depth : ℕ) (s : State) (x : Expr) (want : Option Ty) → Files (value_at_depth depth context s x want)
  of-value_at_depth zero s x want = files_done
  of-value_at_depth (suc depth) s x want = of-infer_by_parts (value_at_depth depth context) (of-value_at_depth depth) s x want

  pub of-infer : (s : State) (x : Expr) (want : Option Ty) → Files (infer context s x want)
  unfolding infer
  of-infer s x want = of-value_at_depth most_depth s x want

  pub of-infer_type : (s : State) (x : Expr) (want : Option Ty) → Files (infer_type context s x want)
  of-infer_type s x want = of-type_in (infer context) of-infer s x want

  pub of-read_by : (s : State) (x : Expr) → Files (read_by context s x)
  of-read_by s x = of-infer_freely (infer context) of-infer s x

  pub of-condition : (s : State) (x : Expr) → Files (condition context s x)
  unfolding condition
  of-condition s x = files_then _ _ (of-read_by s x) (λ u. of-split_by (infer context) of-infer s x)

  pub of-infer_index : (s : State) (brackets : Index) → Files (infer_index context s brackets)
  of-infer_index s brackets = of-index_type (infer context) of-infer s brackets
