-- What expressions of each form ask, where each of their parts asks files alone.
use Rattle.std.proofs.Common.{ℕ, ◌&&◌, List, [], ◌∷◌, ◌++◌, Option, None, Some}
use Rattle.pyc_arguments.specs.Reporting.{CalleeName, shown_name, shown_nameless}
use Rattle.pyc_ast.specs.declared.operator.BooleanOperator.{BooleanOperator}
use Rattle.pyc_ast.specs.declared.operator.Operator.{Operator}
use Rattle.pyc_ast.specs.declared.operator.UnaryOperator.{UnaryOperator}
use Rattle.pyc_ast.specs.declared.position.Position.{Position}
use Rattle.pyc_ast.specs.Exprs.{Argument, Comparison, Comparisons, Expr, Form, Index, IndexForm, Indices, OptionalExpr, absent, another_comparison, another_index, argument, attribute, boolean, comparison, expr, index, indices, item, name, no_comparison, no_index, present, slice}
use Rattle.pyc_calls.specs.Methods.{infer_method_call}
use Rattle.pyc_expr_forms.specs.CallValues.{infer_attribute_call, by_special_form, call_type, callee_by_form, infer_value_call, cast_by, cast_to, infer_member_call, reveal_argument, infer_plain_call, reveal_part, infer_reveal_call, shown_attribute, two_cast}
use Rattle.pyc_expr_forms.specs.Choices.{Chain, arms_type, boolean_type, infer_chain, chained_form, choice_type, first_side, last_side, next_side, orelse_type, reached_type, same_operator, infer_side, type_where, infer_with_side}
use Rattle.pyc_expr_forms.specs.Contexts.{Context, InferValue, looked_by, infer_freely, plainly, type_in}
use Rattle.pyc_expr_forms.specs.Names.{attribute_of, attribute_value, name_value, unless_narrowed}
use Rattle.pyc_expr_forms.specs.Operations.{infer_comparisons, binary_type, chain_type, compare_type, infer_comparison, unary_type, infer_with_right}
use Rattle.pyc_expr_forms.specs.Subscripting.{index_form_type, index_type, index_types, infer_optional, slice_type, subscript_of, subscript_type}
use Rattle.pyc_expression_laws.proofs.AttributeKeyLemmas.{of-type_attribute}
use Rattle.pyc_expression_laws.proofs.CallKeyLemmas.{of-call, of-infer_method_call}
use Rattle.pyc_expression_laws.proofs.ItemKeyLemmas.{of-subscript}
use Rattle.pyc_expression_laws.proofs.NarrowingLemmas.{of-split}
use Rattle.pyc_expression_laws.proofs.OperatorKeyLemmas.{of-binary, of-check_comparison, of-unary}
use Rattle.pyc_expression_laws.proofs.StepLemmas.{Files, files_done, files_if, files_report, files_then}
use Rattle.pyc_names.specs.declared.fixed.FixedName.TheVariants as fixed
use Rattle.pyc_narrowing.specs.Splitting.{is_positional, split}
use Rattle.pyc_narrowing.specs.SplitStates.{SplitStates}
use Rattle.pyc_obligations.specs.Values.{SpecialForm, Value, fixed_special_form, reveal_type_special_form}
use Rattle.pyc_places.specs.States.{State, narrowed_at, reachable, unreachable}
use Rattle.pyc_reading.specs.Traces.{Step}
use Rattle.pyc_type_forms.specs.Types.{Ty}

pub of-plainly : (read : Step Ty) → Files read → Files (plainly read)
unfolding plainly
of-plainly read all = files_then _ _ all (λ ty. files_done)

-- a narrowed place asks nothing
of-unless_narrowed : (narrowed : Option Ty) (found : Step Value) → Files found → Files (unless_narrowed narrowed found)
of-unless_narrowed (Some ty) found all = files_done
of-unless_narrowed None found all = all

pub of-name_value : (context : Context) (s : State) (whole : Expr) (at : Position) (x : List ℕ) → Files (context.resolve_name at x) → Files (name_value context s whole at x)
of-name_value context s whole at x all = of-unless_narrowed (narrowed_at s whole) (context.resolve_name at x) all

of-attribute_of : (s : State) (whole : Expr) (at : Position) (n : List ℕ) (owner : Value) → Files (attribute_of s whole at n owner)
of-attribute_of s whole at n owner = of-unless_narrowed (narrowed_at s whole) _ (of-type_attribute at owner.ty n)

module _ (parts : InferValue) (all : (s : State) (x : Expr) (want : Option Ty) → Files (parts s x want)) where
  pub of-type_in : (s : State) (x : Expr) (want : Option Ty) → Files (type_in parts s x want)
  unfolding type_in
  of-type_in s x want = files_then _ _ (all s x want) (λ found. files_done)

  pub of-infer_freely : (s : State) (x : Expr) → Files (infer_freely parts s x)
  unfolding infer_freely
  of-infer_freely s x = files_then _ _ (all s x None) (λ found. files_done)

  pub of-split_by : (s : State) (x : Expr) → Files (split (looked_by parts) s x)
  of-split_by s x = of-split (looked_by parts) (λ t y. all t y None) s x

  pub of-attribute_value : (s : State) (whole : Expr) (at : Position) (x : Expr) (n : List ℕ) → Files (attribute_value parts s whole at x n)
  unfolding attribute_value
  of-attribute_value s whole at x n = files_then _ _ (all s x None) (of-attribute_of s whole at n)

  -- ---- operators

  pub of-unary_type : (s : State) (at : Position) (operator : UnaryOperator) (x : Expr) → Files (unary_type parts s at operator x)
  unfolding unary_type
  of-unary_type s at operator x = files_then _ _ (of-type_in s x None) (of-unary infer_method_call of-infer_method_call at operator)

  of-infer_with_right : (s : State) (at : Position) (operator : Operator) (y : Expr) (left : Ty) → Files (infer_with_right parts s at operator y left)
  unfolding infer_with_right
  of-infer_with_right s at operator y left = files_then _ _ (of-type_in s y None) (of-binary infer_method_call of-infer_method_call at operator left)

  pub of-binary_type : (s : State) (at : Position) (operator : Operator) (x y : Expr) → Files (binary_type parts s at operator x y)
  unfolding binary_type
  of-binary_type s at operator x y = files_then _ _ (of-type_in s x None) (of-infer_with_right s at operator y)

  of-infer_comparison : (s : State) (at : Position) (left : Ty) (found : Comparison) → Files (infer_comparison parts s at left found)
  unfolding infer_comparison
  of-infer_comparison s at left (comparison operator y) =
      files_then _ _ (of-type_in s y None) (λ right. files_then _ _ (of-check_comparison infer_method_call of-infer_method_call at operator left right) (λ u. files_done))

  of-infer_comparisons : (s : State) (at : Position) (left : Ty) (rest : Comparisons) → Files (infer_comparisons parts s at left rest)
  unfolding infer_comparisons
  of-infer_comparisons s at left no_comparison = files_done
  of-infer_comparisons s at left (another_comparison x xs) = files_then _ _ (of-infer_comparison s at left x) (λ right. of-infer_comparisons s at right xs)

  pub of-compare_type : (s : State) (at : Position) (x : Expr) (rest : Comparisons) → Files (compare_type parts s at x rest)
  unfolding compare_type chain_type
  of-compare_type s at x rest = files_then _ _ (of-type_in s x None) (λ left. files_then _ _ (of-infer_comparisons s at left rest) (λ last. files_done))

  -- ---- subscripts

  pub of-infer_optional : (s : State) (x : OptionalExpr) → Files (infer_optional parts s x)
  of-infer_optional s absent = files_done
  of-infer_optional s (present x) = of-infer_freely s x

  of-slice_type : (s : State) (lower upper step : OptionalExpr) → Files (slice_type parts s lower upper step)
  unfolding slice_type
  of-slice_type s lower upper step =
      files_then _ _ (of-infer_optional s lower) (λ u. files_then _ _ (of-infer_optional s upper) (λ v. files_then _ _ (of-infer_optional s step) (λ w. files_done)))

  mutual
    pub of-index_type : (s : State) (brackets : Index) → Files (index_type parts s brackets)
    of-index_type s (index at form) = of-index_form_type s form

    of-index_form_type : (s : State) (form : IndexForm) → Files (index_form_type parts s form)
    of-index_form_type s (item x) = of-type_in s x None
    of-index_form_type s (slice lower upper step) = of-slice_type s lower upper step
    of-index_form_type s (indices items) = files_then _ _ (of-index_types s [] items) (λ types. files_done)

    of-index_types : (s : State) (types : List Ty) (items : Indices) → Files (index_types parts s types items)
    of-index_types s types no_index = files_done
    of-index_types s types (another_index x xs) = files_then _ _ (of-index_type s x) (λ ty. of-index_types s (types ++ (ty ∷ [])) xs)

  pub of-subscript_type : (s : State) (at : Position) (x : Expr) (brackets : Index) → Files (subscript_type parts s at x brackets)
  unfolding subscript_type subscript_of
  of-subscript_type s at x brackets =
      files_then _ _ (of-type_in s x None) (λ ty. files_then _ _ (of-index_type s brackets) (λ got. of-subscript at brackets got ty))

  -- ---- choices

  of-type_where : (s : State) (x : Expr) (want : Option Ty) → Files (type_where parts s x want)
  unfolding reached_type
  of-type_where unreachable x want = files_done
  of-type_where (reachable narrowings) x want = files_then _ _ (of-type_in (reachable narrowings) x want) (λ ty. files_done)

  of-infer_side : (s : State) (operator : BooleanOperator) (x : Expr) (ty : Ty) → Files (infer_side parts s operator x ty)
  unfolding infer_side
  of-infer_side s operator x ty = files_then _ _ (of-split_by s x) (λ states. files_done)

  of-first_side : (s : State) (want : Option Ty) (operator : BooleanOperator) (x : Expr) → Files (first_side parts s want operator x)
  unfolding first_side
  of-first_side s want operator x = files_then _ _ (of-type_in s x want) (of-infer_side s operator x)

  of-last_side : (want : Option Ty) (operator : BooleanOperator) (y : Expr) (left : Chain) → Files (last_side parts want operator y left)
  unfolding infer_with_side
  of-last_side want operator y left = files_then _ _ (of-type_where left.state y want) (λ right. files_done)

  of-next_side : (want : Option Ty) (operator : BooleanOperator) (y : Expr) (left : Chain) → Files (next_side parts want operator y left)
  unfolding next_side
  of-next_side want operator y left = files_then _ _ (of-last_side want operator y left) (of-infer_side left.state operator y)

  mutual
    of-infer_chain : (s : State) (want : Option Ty) (operator : BooleanOperator) (x : Expr) → Files (infer_chain parts s want operator x)
    of-infer_chain s want operator (expr at inside form) = of-chained_form s want operator (expr at inside form) form

    of-chained_form : (s : State) (want : Option Ty) (operator : BooleanOperator) (whole : Expr) (form : Form) → Files (chained_form parts s want operator whole form)
    of-chained_form s want operator whole (boolean inner x y) =
        files_if (same_operator operator inner) _ _ (files_then _ _ (of-infer_chain s want operator x) (of-next_side want operator y)) (of-first_side s want operator whole)
    of-chained_form s want operator whole form = of-first_side s want operator whole

  pub of-boolean_type : (s : State) (want : Option Ty) (operator : BooleanOperator) (x y : Expr) → Files (boolean_type parts s want operator x y)
  unfolding boolean_type
  of-boolean_type s want operator x y = files_then _ _ (of-infer_chain s want operator x) (of-last_side want operator y)

  of-arms_type : (want : Option Ty) (x y : Expr) (states : SplitStates) → Files (arms_type parts want x y states)
  unfolding arms_type orelse_type
  of-arms_type want x y states =
      files_then _ _ (of-type_where states.if_true x want) (λ body. files_then _ _ (of-type_where states.if_false y want) (λ orelse. files_done))

  pub of-choice_type : (s : State) (want : Option Ty) (test x y : Expr) → Files (choice_type parts s want test x y)
  unfolding choice_type
  of-choice_type s want test x y = files_then _ _ (of-infer_freely s test) (λ u. files_then _ _ (of-split_by s test) (of-arms_type want x y))

  -- ---- calls

  of-reveal_argument : (s : State) (at : Position) (x : Argument) (otherwise : Step Ty) → Files otherwise → Files (reveal_argument parts s at x otherwise)
  unfolding reveal_part
  of-reveal_argument s at (argument p kind x) otherwise rest =
      files_if (is_positional kind) _ _ (files_then _ _ (of-type_in s x None) (λ ty. files_report files_done)) rest

  of-infer_reveal_call : (s : State) (at : Position) (given : List Argument) (otherwise : Step Ty) → Files otherwise → Files (infer_reveal_call parts s at given otherwise)
  of-infer_reveal_call s at (x ∷ []) otherwise rest = of-reveal_argument s at x otherwise rest
  of-infer_reveal_call s at _ otherwise rest = rest

  module _ (context : Context) (annotations : (x : Expr) → Files (context.annotated x)) where
    of-two_cast : (s : State) (first second : Argument) (otherwise : Step Ty) → Files otherwise → Files (two_cast context parts s first second otherwise)
    unfolding cast_to
    of-two_cast s (argument p kind x) (argument q other y) otherwise rest =
        files_if (is_positional kind && is_positional other) _ _
        (files_then _ _ (annotations x) (λ ty. files_then _ _ (of-infer_freely s y) (λ u. files_done))) rest

    of-cast_by : (s : State) (given : List Argument) (otherwise : Step Ty) → Files otherwise → Files (cast_by context parts s given otherwise)
    of-cast_by s (x ∷ y ∷ []) otherwise rest = of-two_cast s x y otherwise rest
    of-cast_by s _ otherwise rest = rest

    of-by_special_form : (s : State) (at : Position) (given : List Argument) (otherwise : Step Ty) (special_form : SpecialForm) → Files otherwise
        → Files (by_special_form context parts s at given otherwise special_form)
    of-by_special_form s at given otherwise reveal_type_special_form rest = of-infer_reveal_call s at given otherwise rest
    of-by_special_form s at given otherwise (fixed_special_form fixed.RevealType) rest = of-infer_reveal_call s at given otherwise rest
    of-by_special_form s at given otherwise (fixed_special_form fixed.Cast) rest = of-cast_by s given otherwise rest
    of-by_special_form s at given otherwise _ rest = rest

    of-infer_value_call : (s : State) (at : Position) (given : List Argument) (shown : CalleeName) (found : Value) → Files (infer_value_call context parts s at given shown found)
    of-infer_value_call s at given shown found =
        of-by_special_form s at given _ found.special_form (of-call (type_in parts s) (of-type_in s) shown at given found.ty)

    of-infer_plain_call : (s : State) (at : Position) (given : List Argument) (callee : Expr) (shown : CalleeName) → Files (infer_plain_call context parts s at given callee shown)
    unfolding infer_plain_call
    of-infer_plain_call s at given callee shown = files_then _ _ (all s callee None) (of-infer_value_call s at given shown)

    of-callee_by_form : (s : State) (at : Position) (given : List Argument) (callee : Expr) (inside : Position) (form : Form)
        → Files (callee_by_form context parts s at given callee inside form)
    unfolding infer_attribute_call infer_member_call
    of-callee_by_form s at given callee inside (attribute x n) =
        files_then _ _ (all s x None) (λ owner.
        files_then _ _ (of-attribute_of s callee inside n owner) (of-infer_value_call s at given (shown_attribute n owner.ty)))
    of-callee_by_form s at given callee inside (name n) = of-infer_plain_call s at given callee (shown_name n)
    of-callee_by_form s at given callee inside _ = of-infer_plain_call s at given callee shown_nameless

    pub of-call_type : (s : State) (at : Position) (callee : Expr) (given : List Argument) → Files (call_type context parts s at callee given)
    of-call_type s at (expr begins inside form) given = of-callee_by_form s at given (expr begins inside form) inside form
