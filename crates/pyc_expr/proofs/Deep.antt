-- An expression that is read at least as deep as its parts lie is what it is.
use Rattle.std.proofs.Common.{◌≡◌, ◌≤◌, ◌∷◌, [], ◌++◌, ℕ, zero, suc, min, ◌&&◌, List, Option, None, refl, ap, arith}
use Rattle.pyc_arguments.specs.Arguments.{Arg}
use Rattle.pyc_arguments.specs.Reporting.{CalleeName, shown_name, shown_nameless}
use Rattle.pyc_ast.specs.declared.operator.BooleanOperator.{BooleanOperator}
use Rattle.pyc_ast.specs.declared.operator.Operator.{Operator}
use Rattle.pyc_ast.specs.declared.operator.UnaryOperator.{UnaryOperator}
use Rattle.pyc_ast.specs.declared.position.Position.{Position}
use Rattle.pyc_ast.specs.Exprs as form
use Rattle.pyc_ast.specs.Exprs.{Expr, expr, Form, OptionalExpr, absent, present, Index, index, IndexForm, item, slice, indices, Indices, no_index, another_index}
use Rattle.pyc_ast.specs.Exprs.{Comparison, comparison, Comparisons, no_comparison, another_comparison, Argument, argument, Arguments, no_argument, another_argument}
use Rattle.pyc_calls.specs.Called.{call, call_result}
use Rattle.pyc_expr.proofs.Same.{Agree, then_same, if_same, type_same, read_same, list_same, tuple_same, set_same, dict_same, arguments_same}
use Rattle.pyc_expr.proofs.SameSplit.{split_same}
use Rattle.pyc_expr_forms.specs.CallValues.{reveal_part, reveal_argument, infer_reveal_call, cast_to, two_cast, cast_by, by_special_form, infer_value_call, infer_member_call, infer_attribute_call, infer_plain_call, call_type}
use Rattle.pyc_expr_forms.specs.CallValues.{shown_attribute}
use Rattle.pyc_expr_forms.specs.Choices.{reached_type, type_where, Chain, infer_side, first_side, infer_with_side, next_side, same_operator, infer_chain, chained_form, boolean_type, orelse_type, arms_type, choice_type}
use Rattle.pyc_expr_forms.specs.Contexts.{Context, InferValue, type_in, looked_by, plainly}
use Rattle.pyc_expr.specs.Heights.{height, parts_height, optional_height, index_height, index_form_height, indices_height, comparisons_height, comparison_height, arguments_height, argument_height}
use Rattle.pyc_expr.specs.Laws.{value_of_expr}
use Rattle.pyc_expr_forms.specs.Names.{attribute_value}
use Rattle.pyc_expr_forms.specs.Operations.{unary_type, infer_with_right, binary_type, infer_comparison, infer_comparisons, chain_type, compare_type}
use Rattle.pyc_expr.specs.Parts.{argument_list}
use Rattle.pyc_expr_forms.specs.Subscripting.{infer_optional, slice_type, index_type, index_form_type, index_types, subscript_of, subscript_type}
use Rattle.pyc_expr.specs.Values.{any_after, choice_by_form, infer_operation_form, infer_type_form, infer_form, infer_by_parts, value_at_depth, infer, infer_index, split_by, most_depth}
use Rattle.pyc_names.specs.declared.fixed.FixedName.TheVariants as fixed
use Rattle.pyc_narrowing.specs.Splitting.{is_positional, split}
use Rattle.pyc_narrowing.specs.SplitStates.{SplitStates}
use Rattle.pyc_obligations.specs.Values.{SpecialForm, Value, plain_special_form, fixed_special_form, reveal_type_special_form, isinstance_special_form}
use Rattle.pyc_places.specs.States.{State, unreachable, reachable}
use Rattle.pyc_reading.specs.Traces.{Step}
use Rattle.pyc_type_forms.specs.Types.{Ty}

-- ---- operations

unary_same : (n : ℕ) (p q : InferValue) → Agree n p q → (s : State) (at : Position) (operator : UnaryOperator) (x : Expr) → height x ≤ n → unary_type p s at operator x ≡ unary_type q s at operator x
unfolding unary_type
unary_same n p q same s at operator x low = then_same _ _ _ _ (type_same n p q same s x None low) (λ ty. refl)

right_same : (n : ℕ) (p q : InferValue) → Agree n p q → (s : State) (at : Position) (operator : Operator) (y : Expr) (left : Ty) → height y ≤ n
    → infer_with_right p s at operator y left ≡ infer_with_right q s at operator y left
unfolding infer_with_right
right_same n p q same s at operator y left low = then_same _ _ _ _ (type_same n p q same s y None low) (λ ty. refl)

binary_same : (n : ℕ) (p q : InferValue) → Agree n p q → (s : State) (at : Position) (operator : Operator) (x y : Expr) → height x ≤ n → height y ≤ n
    → binary_type p s at operator x y ≡ binary_type q s at operator x y
unfolding binary_type
binary_same n p q same s at operator x y low other = then_same _ _ _ _ (type_same n p q same s x None low) (λ left. right_same n p q same s at operator y left other)

link_same : (n : ℕ) (p q : InferValue) → Agree n p q → (s : State) (at : Position) (left : Ty) (c : Comparison) → comparison_height c ≤ n
    → infer_comparison p s at left c ≡ infer_comparison q s at left c
unfolding infer_comparison
link_same n p q same s at left (comparison operator y) low = then_same _ _ _ _ (type_same n p q same s y None low) (λ right. refl)

links_same : (n : ℕ) (p q : InferValue) → Agree n p q → (s : State) (at : Position) (left : Ty) (rest : Comparisons) → comparisons_height rest ≤ n
    → infer_comparisons p s at left rest ≡ infer_comparisons q s at left rest
unfolding infer_comparisons
links_same n p q same s at left no_comparison low = refl
links_same n p q same s at left (another_comparison c rest) low =
    then_same _ _ _ _ (link_same n p q same s at left c (omega (arith, low))) (λ right. links_same n p q same s at right rest (omega (arith, low)))

chain_same : (n : ℕ) (p q : InferValue) → Agree n p q → (s : State) (at : Position) (rest : Comparisons) (left : Ty) → comparisons_height rest ≤ n
    → chain_type p s at rest left ≡ chain_type q s at rest left
unfolding chain_type
chain_same n p q same s at rest left low = then_same _ _ _ _ (links_same n p q same s at left rest low) (λ last. refl)

compare_same : (n : ℕ) (p q : InferValue) → Agree n p q → (s : State) (at : Position) (x : Expr) (rest : Comparisons) → height x ≤ n → comparisons_height rest ≤ n
    → compare_type p s at x rest ≡ compare_type q s at x rest
unfolding compare_type
compare_same n p q same s at x rest low other = then_same _ _ _ _ (type_same n p q same s x None low) (λ left. chain_same n p q same s at rest left other)

-- ---- subscripts

optional_same : (n : ℕ) (p q : InferValue) → Agree n p q → (s : State) (x : OptionalExpr) → optional_height x ≤ n → infer_optional p s x ≡ infer_optional q s x
optional_same n p q same s absent low = refl
optional_same n p q same s (present x) low = read_same n p q same s x low

slice_same : (n : ℕ) (p q : InferValue) → Agree n p q → (s : State) (x y z : OptionalExpr) → optional_height x ≤ n → optional_height y ≤ n → optional_height z ≤ n
    → slice_type p s x y z ≡ slice_type q s x y z
unfolding slice_type
slice_same n p q same s x y z least low high =
    then_same _ _ _ _ (optional_same n p q same s x least) (λ u. then_same _ _ _ _ (optional_same n p q same s y low) (λ v. then_same _ _ _ _ (optional_same n p q same s z high) (λ w. refl)))

mutual
  pub index_same : (n : ℕ) (p q : InferValue) → Agree n p q → (s : State) (i : Index) → index_height i ≤ n → index_type p s i ≡ index_type q s i
  index_same n p q same s (index at found) low = index_form_same n p q same s found low

  index_form_same : (n : ℕ) (p q : InferValue) → Agree n p q → (s : State) (i : IndexForm) → index_form_height i ≤ n → index_form_type p s i ≡ index_form_type q s i
  index_form_same n p q same s (item x) low = type_same n p q same s x None low
  index_form_same n p q same s (slice x y z) low = slice_same n p q same s x y z (omega (arith, low)) (omega (arith, low)) (omega (arith, low))
  index_form_same n p q same s (indices items) low = then_same _ _ _ _ (indices_same n p q same s [] items low) (λ types. refl)

  indices_same : (n : ℕ) (p q : InferValue) → Agree n p q → (s : State) (types : List Ty) (i : Indices) → indices_height i ≤ n → index_types p s types i ≡ index_types q s types i
  indices_same n p q same s types no_index low = refl
  indices_same n p q same s types (another_index x xs) low =
      then_same _ _ _ _ (index_same n p q same s x (omega (arith, low))) (λ ty. indices_same n p q same s (types ++ (ty ∷ [])) xs (omega (arith, low)))

of_same : (n : ℕ) (p q : InferValue) → Agree n p q → (s : State) (at : Position) (i : Index) (ty : Ty) → index_height i ≤ n → subscript_of p s at i ty ≡ subscript_of q s at i ty
unfolding subscript_of
of_same n p q same s at i ty low = then_same _ _ _ _ (index_same n p q same s i low) (λ got. refl)

subscript_same : (n : ℕ) (p q : InferValue) → Agree n p q → (s : State) (at : Position) (x : Expr) (i : Index) → height x ≤ n → index_height i ≤ n
    → subscript_type p s at x i ≡ subscript_type q s at x i
unfolding subscript_type
subscript_same n p q same s at x i low other = then_same _ _ _ _ (type_same n p q same s x None low) (λ ty. of_same n p q same s at i ty other)

-- ---- choices

where_same : (n : ℕ) (p q : InferValue) → Agree n p q → (s : State) (x : Expr) (want : Option Ty) → height x ≤ n → type_where p s x want ≡ type_where q s x want
unfolding reached_type
where_same n p q same unreachable x want low = refl
where_same n p q same (reachable narrowings) x want low = then_same _ _ _ _ (type_same n p q same (reachable narrowings) x want low) (λ ty. refl)

said_same : (n : ℕ) (p q : InferValue) → Agree n p q → (s : State) (operator : BooleanOperator) (x : Expr) (ty : Ty) → height x ≤ n
    → infer_side p s operator x ty ≡ infer_side q s operator x ty
unfolding infer_side
said_same n p q same s operator x ty low = then_same _ _ _ _ (split_same n p q same s x low) (λ states. refl)

first_side_same : (n : ℕ) (p q : InferValue) → Agree n p q → (s : State) (want : Option Ty) (operator : BooleanOperator) (x : Expr) → height x ≤ n
    → first_side p s want operator x ≡ first_side q s want operator x
unfolding first_side
first_side_same n p q same s want operator x low = then_same _ _ _ _ (type_same n p q same s x want low) (λ ty. said_same n p q same s operator x ty low)

with_side_same : (n : ℕ) (p q : InferValue) → Agree n p q → (s : State) (want : Option Ty) (operator : BooleanOperator) (y : Expr) (left : Ty) → height y ≤ n
    → infer_with_side p s want operator y left ≡ infer_with_side q s want operator y left
unfolding infer_with_side
with_side_same n p q same s want operator y left low = then_same _ _ _ _ (where_same n p q same s y want low) (λ right. refl)

next_side_same : (n : ℕ) (p q : InferValue) → Agree n p q → (want : Option Ty) (operator : BooleanOperator) (y : Expr) (left : Chain) → height y ≤ n
    → next_side p want operator y left ≡ next_side q want operator y left
unfolding next_side
next_side_same n p q same want operator y left low =
    then_same _ _ _ _ (with_side_same n p q same left.state want operator y left.ty low) (λ ty. said_same n p q same left.state operator y ty low)

mutual
  chained_same : (n : ℕ) (p q : InferValue) → Agree n p q → (s : State) (want : Option Ty) (operator : BooleanOperator) (x : Expr) → height x ≤ n
      → infer_chain p s want operator x ≡ infer_chain q s want operator x
  chained_same n p q same s want operator (expr at inside found) low = chained_form_same n p q same s want operator at inside found low

  chained_form_same : (n : ℕ) (p q : InferValue) → Agree n p q → (s : State) (want : Option Ty) (operator : BooleanOperator) (at inside : Position) (found : Form)
      → height (expr at inside found) ≤ n → chained_form p s want operator (expr at inside found) found ≡ chained_form q s want operator (expr at inside found) found
  chained_form_same n p q same s want operator at inside (form.boolean inner x y) low =
      if_same (same_operator operator inner) _ _ _ _
      (then_same _ _ _ _ (chained_same n p q same s want operator x (omega (arith, low))) (λ left. next_side_same n p q same want operator y left (omega (arith, low))))
      (first_side_same n p q same s want operator _ low)
  chained_form_same n p q same s want operator at inside (form.name x) low = first_side_same n p q same s want operator _ low
  chained_form_same n p q same s want operator at inside (form.constant x) low = first_side_same n p q same s want operator _ low
  chained_form_same n p q same s want operator at inside (form.string_annotation x) low = first_side_same n p q same s want operator _ low
  chained_form_same n p q same s want operator at inside (form.tuple x) low = first_side_same n p q same s want operator _ low
  chained_form_same n p q same s want operator at inside (form.list x) low = first_side_same n p q same s want operator _ low
  chained_form_same n p q same s want operator at inside (form.set x) low = first_side_same n p q same s want operator _ low
  chained_form_same n p q same s want operator at inside (form.dict x) low = first_side_same n p q same s want operator _ low
  chained_form_same n p q same s want operator at inside (form.unchecked x) low = first_side_same n p q same s want operator _ low
  chained_form_same n p q same s want operator at inside (form.attribute x y) low = first_side_same n p q same s want operator _ low
  chained_form_same n p q same s want operator at inside (form.call x y) low = first_side_same n p q same s want operator _ low
  chained_form_same n p q same s want operator at inside (form.subscript x y) low = first_side_same n p q same s want operator _ low
  chained_form_same n p q same s want operator at inside (form.unary x y) low = first_side_same n p q same s want operator _ low
  chained_form_same n p q same s want operator at inside (form.binary x y z) low = first_side_same n p q same s want operator _ low
  chained_form_same n p q same s want operator at inside (form.compare x y) low = first_side_same n p q same s want operator _ low
  chained_form_same n p q same s want operator at inside (form.conditional x y z) low = first_side_same n p q same s want operator _ low
  chained_form_same n p q same s want operator at inside (form.await x) low = first_side_same n p q same s want operator _ low
  chained_form_same n p q same s want operator at inside (form.yield x) low = first_side_same n p q same s want operator _ low
  chained_form_same n p q same s want operator at inside (form.yield_from x) low = first_side_same n p q same s want operator _ low

boolean_same : (n : ℕ) (p q : InferValue) → Agree n p q → (s : State) (want : Option Ty) (operator : BooleanOperator) (x y : Expr) → height x ≤ n → height y ≤ n
    → boolean_type p s want operator x y ≡ boolean_type q s want operator x y
unfolding boolean_type
boolean_same n p q same s want operator x y low other =
    then_same _ _ _ _ (chained_same n p q same s want operator x low) (λ left. with_side_same n p q same left.state want operator y left.ty other)

orelse_same : (n : ℕ) (p q : InferValue) → Agree n p q → (s : State) (want : Option Ty) (y : Expr) (body : Option Ty) → height y ≤ n → orelse_type p s want y body ≡ orelse_type q s want y body
unfolding orelse_type
orelse_same n p q same s want y body low = then_same _ _ _ _ (where_same n p q same s y want low) (λ orelse. refl)

arms_same : (n : ℕ) (p q : InferValue) → Agree n p q → (want : Option Ty) (x y : Expr) (states : SplitStates) → height x ≤ n → height y ≤ n
    → arms_type p want x y states ≡ arms_type q want x y states
unfolding arms_type
arms_same n p q same want x y states low other =
    then_same _ _ _ _ (where_same n p q same states.if_true x want low) (λ body. orelse_same n p q same states.if_false want y body other)

choice_same : (n : ℕ) (p q : InferValue) → Agree n p q → (s : State) (want : Option Ty) (test x y : Expr) → height test ≤ n → height x ≤ n → height y ≤ n
    → choice_type p s want test x y ≡ choice_type q s want test x y
unfolding choice_type
choice_same n p q same s want test x y least low other =
    then_same _ _ _ _ (read_same n p q same s test least) (λ u. then_same _ _ _ _ (split_same n p q same s test least) (λ states. arms_same n p q same want x y states low other))

-- ---- calls

revealed_same : (n : ℕ) (p q : InferValue) → Agree n p q → (s : State) (at : Position) (x : Expr) → height x ≤ n → reveal_part p s at x ≡ reveal_part q s at x
unfolding reveal_part
revealed_same n p q same s at x low = then_same _ _ _ _ (type_same n p q same s x None low) (λ ty. refl)

one_same : (n : ℕ) (p q : InferValue) → Agree n p q → (s : State) (at : Position) (a : Argument) (v w : Step Ty) → v ≡ w → argument_height a ≤ n
    → reveal_argument p s at a v ≡ reveal_argument q s at a w
one_same n p q same s at (argument begins kind x) v w otherwise low = if_same (is_positional kind) _ _ _ _ (revealed_same n p q same s at x low) otherwise

reveal_same : (n : ℕ) (p q : InferValue) → Agree n p q → (s : State) (at : Position) (xs : Arguments) (v w : Step Ty) → v ≡ w → arguments_height xs ≤ n
    → infer_reveal_call p s at (argument_list xs) v ≡ infer_reveal_call q s at (argument_list xs) w
reveal_same n p q same s at no_argument v w otherwise low = otherwise
reveal_same n p q same s at (another_argument a no_argument) v w otherwise low = one_same n p q same s at a v w otherwise (omega (arith, low))
reveal_same n p q same s at (another_argument a (another_argument b rest)) v w otherwise low = otherwise

cast_to_same : (n : ℕ) (p q : InferValue) → Agree n p q → (context : Context) (s : State) (x y : Expr) → height y ≤ n → cast_to context p s x y ≡ cast_to context q s x y
unfolding cast_to
cast_to_same n p q same context s x y low = then_same _ _ _ _ refl (λ ty. then_same _ _ _ _ (read_same n p q same s y low) (λ u. refl))

two_same : (n : ℕ) (p q : InferValue) → Agree n p q → (context : Context) (s : State) (a b : Argument) (v w : Step Ty) → v ≡ w → argument_height b ≤ n
    → two_cast context p s a b v ≡ two_cast context q s a b w
two_same n p q same context s (argument begins kind x) (argument at other y) v w otherwise low =
    if_same (is_positional kind && is_positional other) _ _ _ _ (cast_to_same n p q same context s x y low) otherwise

cast_same : (n : ℕ) (p q : InferValue) → Agree n p q → (context : Context) (s : State) (xs : Arguments) (v w : Step Ty) → v ≡ w → arguments_height xs ≤ n
    → cast_by context p s (argument_list xs) v ≡ cast_by context q s (argument_list xs) w
cast_same n p q same context s no_argument v w otherwise low = otherwise
cast_same n p q same context s (another_argument a no_argument) v w otherwise low = otherwise
cast_same n p q same context s (another_argument a (another_argument b no_argument)) v w otherwise low = two_same n p q same context s a b v w otherwise (omega (arith, low))
cast_same n p q same context s (another_argument a (another_argument b (another_argument d rest))) v w otherwise low = otherwise

special_form_same : (n : ℕ) (p q : InferValue) → Agree n p q → (context : Context) (s : State) (at : Position) (xs : Arguments) (v w : Step Ty) (special_form : SpecialForm) → v ≡ w → arguments_height xs ≤ n
    → by_special_form context p s at (argument_list xs) v special_form ≡ by_special_form context q s at (argument_list xs) w special_form
special_form_same n p q same context s at xs v w plain_special_form otherwise low = otherwise
special_form_same n p q same context s at xs v w reveal_type_special_form otherwise low = reveal_same n p q same s at xs v w otherwise low
special_form_same n p q same context s at xs v w isinstance_special_form otherwise low = otherwise
special_form_same n p q same context s at xs v w (fixed_special_form fixed.RevealType) otherwise low = reveal_same n p q same s at xs v w otherwise low
special_form_same n p q same context s at xs v w (fixed_special_form fixed.Cast) otherwise low = cast_same n p q same context s xs v w otherwise low
special_form_same n p q same context s at xs v w (fixed_special_form fixed.Any) otherwise low = otherwise
special_form_same n p q same context s at xs v w (fixed_special_form fixed.Optional) otherwise low = otherwise
special_form_same n p q same context s at xs v w (fixed_special_form fixed.Union) otherwise low = otherwise
special_form_same n p q same context s at xs v w (fixed_special_form fixed.List) otherwise low = otherwise
special_form_same n p q same context s at xs v w (fixed_special_form fixed.Dict) otherwise low = otherwise
special_form_same n p q same context s at xs v w (fixed_special_form fixed.Tuple) otherwise low = otherwise
special_form_same n p q same context s at xs v w (fixed_special_form fixed.Callable) otherwise low = otherwise
special_form_same n p q same context s at xs v w (fixed_special_form fixed.TypeChecking) otherwise low = otherwise

value_same : (n : ℕ) (p q : InferValue) → Agree n p q → (context : Context) (s : State) (at : Position) (xs : Arguments) (shown : CalleeName) (found : Value) → arguments_height xs ≤ n
    → infer_value_call context p s at (argument_list xs) shown found ≡ infer_value_call context q s at (argument_list xs) shown found
value_same n p q same context s at xs shown found low =
    special_form_same n p q same context s at xs (call (type_in p s) shown at (argument_list xs) found.ty) (call (type_in q s) shown at (argument_list xs) found.ty) found.special_form
    (ap (λ (args : List Arg). call_result (record { at = at; shown = shown }) args found.ty) (arguments_same n p q same s xs low)) low

member_same : (n : ℕ) (p q : InferValue) → Agree n p q → (context : Context) (s : State) (at : Position) (xs : Arguments) (callee : Expr) (inside : Position) (name : List ℕ) (owner : Value) → arguments_height xs ≤ n
    → infer_member_call context p s at (argument_list xs) callee inside name owner ≡ infer_member_call context q s at (argument_list xs) callee inside name owner
unfolding infer_member_call
member_same n p q same context s at xs callee inside name owner low =
    then_same _ _ _ _ refl (λ found. value_same n p q same context s at xs (shown_attribute name owner.ty) found low)

attribute_called_same : (n : ℕ) (p q : InferValue) → Agree n p q → (context : Context) (s : State) (at : Position) (xs : Arguments) (callee : Expr) (inside : Position) (x : Expr) (name : List ℕ) → arguments_height xs ≤ n → height x ≤ n
    → infer_attribute_call context p s at (argument_list xs) callee inside x name ≡ infer_attribute_call context q s at (argument_list xs) callee inside x name
unfolding infer_attribute_call
attribute_called_same n p q same context s at xs callee inside x name low other =
    then_same _ _ _ _ (same s x None other) (λ owner. member_same n p q same context s at xs callee inside name owner low)

plainly_same : (n : ℕ) (p q : InferValue) → Agree n p q → (context : Context) (s : State) (at : Position) (xs : Arguments) (callee : Expr) (shown : CalleeName) → arguments_height xs ≤ n → height callee ≤ n
    → infer_plain_call context p s at (argument_list xs) callee shown ≡ infer_plain_call context q s at (argument_list xs) callee shown
unfolding infer_plain_call
plainly_same n p q same context s at xs callee shown low other =
    then_same _ _ _ _ (same s callee None other) (λ found. value_same n p q same context s at xs shown found low)

call_same : (n : ℕ) (p q : InferValue) → Agree n p q → (context : Context) (s : State) (at : Position) (xs : Arguments) (callee : Expr) → arguments_height xs ≤ n → height callee ≤ n
    → call_type context p s at callee (argument_list xs) ≡ call_type context q s at callee (argument_list xs)
call_same n p q same context s at xs (expr begins inside (form.name x)) low other = plainly_same n p q same context s at xs _ (shown_name x) low other
call_same n p q same context s at xs (expr begins inside (form.constant x)) low other = plainly_same n p q same context s at xs _ shown_nameless low other
call_same n p q same context s at xs (expr begins inside (form.string_annotation x)) low other = plainly_same n p q same context s at xs _ shown_nameless low other
call_same n p q same context s at xs (expr begins inside (form.tuple x)) low other = plainly_same n p q same context s at xs _ shown_nameless low other
call_same n p q same context s at xs (expr begins inside (form.list x)) low other = plainly_same n p q same context s at xs _ shown_nameless low other
call_same n p q same context s at xs (expr begins inside (form.set x)) low other = plainly_same n p q same context s at xs _ shown_nameless low other
call_same n p q same context s at xs (expr begins inside (form.dict x)) low other = plainly_same n p q same context s at xs _ shown_nameless low other
call_same n p q same context s at xs (expr begins inside (form.unchecked x)) low other = plainly_same n p q same context s at xs _ shown_nameless low other
call_same n p q same context s at xs (expr begins inside (form.attribute x name)) low other = attribute_called_same n p q same context s at xs _ inside x name low (omega (arith, other))
call_same n p q same context s at xs (expr begins inside (form.call x y)) low other = plainly_same n p q same context s at xs _ shown_nameless low other
call_same n p q same context s at xs (expr begins inside (form.subscript x y)) low other = plainly_same n p q same context s at xs _ shown_nameless low other
call_same n p q same context s at xs (expr begins inside (form.unary o x)) low other = plainly_same n p q same context s at xs _ shown_nameless low other
call_same n p q same context s at xs (expr begins inside (form.binary o x y)) low other = plainly_same n p q same context s at xs _ shown_nameless low other
call_same n p q same context s at xs (expr begins inside (form.boolean o x y)) low other = plainly_same n p q same context s at xs _ shown_nameless low other
call_same n p q same context s at xs (expr begins inside (form.compare x y)) low other = plainly_same n p q same context s at xs _ shown_nameless low other
call_same n p q same context s at xs (expr begins inside (form.conditional t x y)) low other = plainly_same n p q same context s at xs _ shown_nameless low other
call_same n p q same context s at xs (expr begins inside (form.await x)) low other = plainly_same n p q same context s at xs _ shown_nameless low other
call_same n p q same context s at xs (expr begins inside (form.yield x)) low other = plainly_same n p q same context s at xs _ shown_nameless low other
call_same n p q same context s at xs (expr begins inside (form.yield_from x)) low other = plainly_same n p q same context s at xs _ shown_nameless low other

-- ---- the whole

choice_form_same : (n : ℕ) (p q : InferValue) → Agree n p q → (s : State) (want : Option Ty) (found : Form) → parts_height found ≤ n
    → choice_by_form p s want found ≡ choice_by_form q s want found
unfolding any_after
choice_form_same n p q same s want (form.name x) low = refl
choice_form_same n p q same s want (form.constant x) low = refl
choice_form_same n p q same s want (form.string_annotation x) low = refl
choice_form_same n p q same s want (form.tuple x) low = refl
choice_form_same n p q same s want (form.list x) low = refl
choice_form_same n p q same s want (form.set x) low = refl
choice_form_same n p q same s want (form.dict x) low = refl
choice_form_same n p q same s want (form.unchecked x) low = refl
choice_form_same n p q same s want (form.attribute x n1) low = refl
choice_form_same n p q same s want (form.call x y) low = refl
choice_form_same n p q same s want (form.subscript x y) low = refl
choice_form_same n p q same s want (form.unary o x) low = refl
choice_form_same n p q same s want (form.binary o x y) low = refl
choice_form_same n p q same s want (form.boolean o x y) low = boolean_same n p q same s want o x y (omega (arith, low)) (omega (arith, low))
choice_form_same n p q same s want (form.compare x y) low = refl
choice_form_same n p q same s want (form.conditional t x y) low = choice_same n p q same s want t x y (omega (arith, low)) (omega (arith, low)) (omega (arith, low))
choice_form_same n p q same s want (form.await x) low = then_same _ _ _ _ (read_same n p q same s x low) (λ u. refl)
choice_form_same n p q same s want (form.yield x) low = then_same _ _ _ _ (optional_same n p q same s x low) (λ u. refl)
choice_form_same n p q same s want (form.yield_from x) low = then_same _ _ _ _ (read_same n p q same s x low) (λ u. refl)

operation_same : (n : ℕ) (p q : InferValue) → Agree n p q → (context : Context) (s : State) (at : Position) (want : Option Ty) (found : Form) → parts_height found ≤ n
    → infer_operation_form context p s at want found ≡ infer_operation_form context q s at want found
operation_same n p q same context s at want (form.name x) low = choice_form_same n p q same s want (form.name x) low
operation_same n p q same context s at want (form.constant x) low = choice_form_same n p q same s want (form.constant x) low
operation_same n p q same context s at want (form.string_annotation x) low = choice_form_same n p q same s want (form.string_annotation x) low
operation_same n p q same context s at want (form.tuple x) low = choice_form_same n p q same s want (form.tuple x) low
operation_same n p q same context s at want (form.list x) low = choice_form_same n p q same s want (form.list x) low
operation_same n p q same context s at want (form.set x) low = choice_form_same n p q same s want (form.set x) low
operation_same n p q same context s at want (form.dict x) low = choice_form_same n p q same s want (form.dict x) low
operation_same n p q same context s at want (form.unchecked x) low = choice_form_same n p q same s want (form.unchecked x) low
operation_same n p q same context s at want (form.attribute x n1) low = choice_form_same n p q same s want (form.attribute x n1) low
operation_same n p q same context s at want (form.call x y) low = call_same n p q same context s at y x (omega (arith, low)) (omega (arith, low))
operation_same n p q same context s at want (form.subscript x y) low = subscript_same n p q same s at x y (omega (arith, low)) (omega (arith, low))
operation_same n p q same context s at want (form.unary o x) low = unary_same n p q same s at o x low
operation_same n p q same context s at want (form.binary o x y) low = binary_same n p q same s at o x y (omega (arith, low)) (omega (arith, low))
operation_same n p q same context s at want (form.boolean o x y) low = choice_form_same n p q same s want (form.boolean o x y) low
operation_same n p q same context s at want (form.compare x y) low = compare_same n p q same s at x y (omega (arith, low)) (omega (arith, low))
operation_same n p q same context s at want (form.conditional t x y) low = choice_form_same n p q same s want (form.conditional t x y) low
operation_same n p q same context s at want (form.await x) low = choice_form_same n p q same s want (form.await x) low
operation_same n p q same context s at want (form.yield x) low = choice_form_same n p q same s want (form.yield x) low
operation_same n p q same context s at want (form.yield_from x) low = choice_form_same n p q same s want (form.yield_from x) low

type_form_same : (n : ℕ) (p q : InferValue) → Agree n p q → (context : Context) (s : State) (at : Position) (want : Option Ty) (found : Form) → parts_height found ≤ n
    → infer_type_form context p s at want found ≡ infer_type_form context q s at want found
type_form_same n p q same context s at want (form.name x) low = operation_same n p q same context s at want (form.name x) low
type_form_same n p q same context s at want (form.constant x) low = refl
type_form_same n p q same context s at want (form.string_annotation x) low = refl
type_form_same n p q same context s at want (form.tuple x) low = tuple_same n p q same s x want low
type_form_same n p q same context s at want (form.list x) low = list_same n p q same s x want low
type_form_same n p q same context s at want (form.set x) low = set_same n p q same s x want low
type_form_same n p q same context s at want (form.dict x) low = dict_same n p q same s x want low
type_form_same n p q same context s at want (form.unchecked x) low = refl
type_form_same n p q same context s at want (form.attribute x n1) low = operation_same n p q same context s at want (form.attribute x n1) low
type_form_same n p q same context s at want (form.call x y) low = operation_same n p q same context s at want (form.call x y) low
type_form_same n p q same context s at want (form.subscript x y) low = operation_same n p q same context s at want (form.subscript x y) low
type_form_same n p q same context s at want (form.unary o x) low = operation_same n p q same context s at want (form.unary o x) low
type_form_same n p q same context s at want (form.binary o x y) low = operation_same n p q same context s at want (form.binary o x y) low
type_form_same n p q same context s at want (form.boolean o x y) low = operation_same n p q same context s at want (form.boolean o x y) low
type_form_same n p q same context s at want (form.compare x y) low = operation_same n p q same context s at want (form.compare x y) low
type_form_same n p q same context s at want (form.conditional t x y) low = operation_same n p q same context s at want (form.conditional t x y) low
type_form_same n p q same context s at want (form.await x) low = operation_same n p q same context s at want (form.await x) low
type_form_same n p q same context s at want (form.yield x) low = operation_same n p q same context s at want (form.yield x) low
type_form_same n p q same context s at want (form.yield_from x) low = operation_same n p q same context s at want (form.yield_from x) low

plain_same : (n : ℕ) (p q : InferValue) → Agree n p q → (context : Context) (s : State) (at : Position) (want : Option Ty) (found : Form) → parts_height found ≤ n
    → plainly (infer_type_form context p s at want found) ≡ plainly (infer_type_form context q s at want found)
plain_same n p q same context s at want found low = ap (λ (r : Step Ty). plainly r) (type_form_same n p q same context s at want found low)

attribute_same : (n : ℕ) (p q : InferValue) → Agree n p q → (s : State) (whole : Expr) (at : Position) (x : Expr) (name : List ℕ) → height x ≤ n
    → attribute_value p s whole at x name ≡ attribute_value q s whole at x name
unfolding attribute_value
attribute_same n p q same s whole at x name low = then_same _ _ _ _ (same s x None low) (λ owner. refl)

form_same : (n : ℕ) (p q : InferValue) → Agree n p q → (context : Context) (s : State) (whole : Expr) (at : Position) (want : Option Ty) (found : Form) → parts_height found ≤ n
    → infer_form context p s whole at want found ≡ infer_form context q s whole at want found
form_same n p q same context s whole at want (form.name x) low = refl
form_same n p q same context s whole at want (form.constant x) low = plain_same n p q same context s at want (form.constant x) low
form_same n p q same context s whole at want (form.string_annotation x) low = plain_same n p q same context s at want (form.string_annotation x) low
form_same n p q same context s whole at want (form.tuple x) low = plain_same n p q same context s at want (form.tuple x) low
form_same n p q same context s whole at want (form.list x) low = plain_same n p q same context s at want (form.list x) low
form_same n p q same context s whole at want (form.set x) low = plain_same n p q same context s at want (form.set x) low
form_same n p q same context s whole at want (form.dict x) low = plain_same n p q same context s at want (form.dict x) low
form_same n p q same context s whole at want (form.unchecked x) low = plain_same n p q same context s at want (form.unchecked x) low
form_same n p q same context s whole at want (form.attribute x n1) low = attribute_same n p q same s whole at x n1 low
form_same n p q same context s whole at want (form.call x y) low = plain_same n p q same context s at want (form.call x y) low
form_same n p q same context s whole at want (form.subscript x y) low = plain_same n p q same context s at want (form.subscript x y) low
form_same n p q same context s whole at want (form.unary o x) low = plain_same n p q same context s at want (form.unary o x) low
form_same n p q same context s whole at want (form.binary o x y) low = plain_same n p q same context s at want (form.binary o x y) low
form_same n p q same context s whole at want (form.boolean o x y) low = plain_same n p q same context s at want (form.boolean o x y) low
form_same n p q same context s whole at want (form.compare x y) low = plain_same n p q same context s at want (form.compare x y) low
form_same n p q same context s whole at want (form.conditional t x y) low = plain_same n p q same context s at want (form.conditional t x y) low
form_same n p q same context s whole at want (form.await x) low = plain_same n p q same context s at want (form.await x) low
form_same n p q same context s whole at want (form.yield x) low = plain_same n p q same context s at want (form.yield x) low
form_same n p q same context s whole at want (form.yield_from x) low = plain_same n p q same context s at want (form.yield_from x) low

-- two readings that agree on the parts of an expression give the same for it
parts_same : (n : ℕ) (p q : InferValue) → Agree n p q → (context : Context) (s : State) (x : Expr) (want : Option Ty) → height x ≤ suc n
    → infer_by_parts context p s x want ≡ infer_by_parts context q s x want
parts_same n p q same context unreachable x want low = refl
parts_same n p q same context (reachable narrowings) (expr at inside found) want low =
    form_same n p q same context (reachable narrowings) (expr at inside found) inside want found (omega (arith, low))

-- at depths that are both enough an expression is the same
both_deep : (n m : ℕ) (context : Context) (s : State) (x : Expr) (want : Option Ty) → height x ≤ n → height x ≤ m
    → value_at_depth n context s x want ≡ value_at_depth m context s x want
both_deep zero m context s (expr at inside found) want low other = absurd (omega (arith, low))
both_deep (suc n) zero context s (expr at inside found) want low other = absurd (omega (arith, other))
both_deep (suc n) (suc m) context s x want low other =
    parts_same (min n m) (value_at_depth n context) (value_at_depth m context)
    (λ t y w under. both_deep n m context t y w (omega (arith, under)) (omega (arith, under))) context s x want (omega (arith, low, other))

pub deep_enough : (depth : ℕ) (context : Context) (s : State) (x : Expr) (want : Option Ty) → height x ≤ depth
    → value_at_depth depth context s x want ≡ value_of_expr context s x want
unfolding value_of_expr
deep_enough depth context s x want low = both_deep depth (height x) context s x want low (omega arith)

pub of_its_parts : (context : Context) (s : State) (x : Expr) (want : Option Ty)
    → value_of_expr context s x want ≡ infer_by_parts context (value_of_expr context) s x want
unfolding value_of_expr
of_its_parts context s (expr at inside found) want =
    parts_same (parts_height found) (value_at_depth (parts_height found) context) (value_of_expr context)
    (λ t y w under. deep_enough (parts_height found) context t y w under) context s (expr at inside found) want (omega arith)

pub inferred : (context : Context) (s : State) (x : Expr) (want : Option Ty) → height x ≤ most_depth
    → infer context s x want ≡ value_of_expr context s x want
unfolding infer
inferred context s x want low = deep_enough most_depth context s x want low

agrees : (context : Context) → Agree most_depth (infer context) (value_of_expr context)
agrees context t y w low = inferred context t y w low

pub splits : (context : Context) (s : State) (x : Expr) → height x ≤ most_depth → split_by context s x ≡ split (looked_by (value_of_expr context)) s x
splits context s x low = split_same most_depth (infer context) (value_of_expr context) (agrees context) s x low

pub indexes : (context : Context) (s : State) (brackets : Index) → index_height brackets ≤ most_depth → infer_index context s brackets ≡ index_type (value_of_expr context) s brackets
indexes context s brackets low = index_same most_depth (infer context) (value_of_expr context) (agrees context) s brackets low
