-- Two proofs that expressions are equal are the same: expressions are a set, since a copy of them is one, from which they
-- come back.
use Rattle.std.proofs.Common.{◌≡◌, refl, sym, ◌∙◌, ap, Bool, false, List, ℕ}
use Rattle.std.specs.Coded.{Coded-set, coded_list, coded_bool, coded_ℕ}
use mathlib.Core.HLevel.{collapsible→set}
use Rattle.pyc_ast.specs.contracts.constant.Constant.{the_row as constant_row}
use Rattle.pyc_ast.specs.contracts.constant.Unchecked.{the_row as unchecked_row}
use Rattle.pyc_ast.specs.contracts.expr.ArgumentKind.{the_row as argument_kind_row}
use Rattle.pyc_ast.specs.contracts.operator.BooleanOperator.{the_row as boolean_operator_row}
use Rattle.pyc_ast.specs.contracts.operator.ComparisonOperator.{the_row as comparison_operator_row}
use Rattle.pyc_ast.specs.contracts.operator.Operator.{the_row as operator_row}
use Rattle.pyc_ast.specs.contracts.operator.UnaryOperator.{the_row as unary_operator_row}
use Rattle.pyc_ast.specs.contracts.position.Position.{the_row as position_row}
use Rattle.pyc_ast.specs.declared.constant.Constant.{Constant}
use Rattle.pyc_ast.specs.declared.constant.Unchecked.{Unchecked}
use Rattle.pyc_ast.specs.declared.expr.ArgumentKind.{ArgumentKind}
use Rattle.pyc_ast.specs.declared.expr.ArgumentKind.TheVariants as argument_kind
use Rattle.pyc_ast.specs.declared.operator.BooleanOperator.{BooleanOperator}
use Rattle.pyc_ast.specs.declared.operator.ComparisonOperator.{ComparisonOperator}
use Rattle.pyc_ast.specs.declared.operator.ComparisonOperator.TheVariants as comparison_operator
use Rattle.pyc_ast.specs.declared.operator.Operator.{Operator}
use Rattle.pyc_ast.specs.declared.operator.UnaryOperator.{UnaryOperator}
use Rattle.pyc_ast.specs.declared.position.Position.{Position}
use Rattle.pyc_ast.specs.Exprs as plain
use Rattle.pyc_ast.specs.Exprs.{Expr, Form, OptionalExpr, Element, Elements, DictItem, DictItems, Argument, Arguments, Comparison, Comparisons, Index, IndexForm, Indices}

-- a copy of expressions and their parts, of one type
data Copy : Type 0 where
  expr : (at inside : Position) → Copy → Copy
  name : List ℕ → Copy
  constant : Constant → Copy
  string_annotation tuple list set dict : Copy → Copy
  unchecked : Unchecked → Copy
  attribute : Copy → List ℕ → Copy
  call subscript : Copy → Copy → Copy
  unary : UnaryOperator → Copy → Copy
  binary : Operator → (left right : Copy) → Copy
  boolean : BooleanOperator → (left right : Copy) → Copy
  compare : Copy → Copy → Copy
  conditional : (test body orelse : Copy) → Copy
  await yield yield_from : Copy → Copy
  present item unpacking indices : Copy → Copy
  none : Copy
  more : (first rest : Copy) → Copy
  element : Bool → Copy → Copy
  entry : (key value : Copy) → Copy
  argument : Position → ArgumentKind → Copy → Copy
  comparison : ComparisonOperator → Copy → Copy
  index : Position → Copy → Copy
  slice : (lower upper step : Copy) → Copy
  deriving IsSet as Copy-set

-- ---- the copy of an expression

abbrev mutual
  of_expr : Expr → Copy
  of_expr (plain.expr at inside form) = expr at inside (of_form form)

  of_form : Form → Copy
  of_form (plain.name n) = name n
  of_form (plain.constant c) = constant c
  of_form (plain.string_annotation x) = string_annotation (of_expr x)
  of_form (plain.tuple xs) = tuple (of_elements xs)
  of_form (plain.list xs) = list (of_elements xs)
  of_form (plain.set xs) = set (of_elements xs)
  of_form (plain.dict xs) = dict (of_dict_items xs)
  of_form (plain.unchecked u) = unchecked u
  of_form (plain.attribute x n) = attribute (of_expr x) n
  of_form (plain.call x xs) = call (of_expr x) (of_arguments xs)
  of_form (plain.subscript x i) = subscript (of_expr x) (of_index i)
  of_form (plain.unary o x) = unary o (of_expr x)
  of_form (plain.binary o x y) = binary o (of_expr x) (of_expr y)
  of_form (plain.boolean o x y) = boolean o (of_expr x) (of_expr y)
  of_form (plain.compare x xs) = compare (of_expr x) (of_comparisons xs)
  of_form (plain.conditional test x y) = conditional (of_expr test) (of_expr x) (of_expr y)
  of_form (plain.await x) = await (of_expr x)
  of_form (plain.yield x) = yield (of_optional x)
  of_form (plain.yield_from x) = yield_from (of_expr x)

  of_optional : OptionalExpr → Copy
  of_optional plain.absent = none
  of_optional (plain.present x) = present (of_expr x)

  of_element : Element → Copy
  of_element (plain.element starred x) = element starred (of_expr x)

  of_elements : Elements → Copy
  of_elements plain.no_element = none
  of_elements (plain.another_element x xs) = more (of_element x) (of_elements xs)

  of_dict_item : DictItem → Copy
  of_dict_item (plain.entry x y) = entry (of_expr x) (of_expr y)
  of_dict_item (plain.unpacking x) = unpacking (of_expr x)

  of_dict_items : DictItems → Copy
  of_dict_items plain.no_dict_item = none
  of_dict_items (plain.another_dict_item x xs) = more (of_dict_item x) (of_dict_items xs)

  of_argument : Argument → Copy
  of_argument (plain.argument at kind x) = argument at kind (of_expr x)

  of_arguments : Arguments → Copy
  of_arguments plain.no_argument = none
  of_arguments (plain.another_argument x xs) = more (of_argument x) (of_arguments xs)

  of_comparison : Comparison → Copy
  of_comparison (plain.comparison o x) = comparison o (of_expr x)

  of_comparisons : Comparisons → Copy
  of_comparisons plain.no_comparison = none
  of_comparisons (plain.another_comparison x xs) = more (of_comparison x) (of_comparisons xs)

  of_index : Index → Copy
  of_index (plain.index at form) = index at (of_index_form form)

  of_index_form : IndexForm → Copy
  of_index_form (plain.item x) = item (of_expr x)
  of_index_form (plain.slice x y z) = slice (of_optional x) (of_optional y) (of_optional z)
  of_index_form (plain.indices xs) = indices (of_indices xs)

  of_indices : Indices → Copy
  of_indices plain.no_index = none
  of_indices (plain.another_index x xs) = more (of_index x) (of_indices xs)

-- ---- back from a copy: what is no copy of an expression gives one that is not read

abbrev start : Position
start = record { line = 0; column = 0 }

abbrev nothing : Expr
nothing = plain.expr start start (plain.yield plain.absent)

abbrev mutual
  to_expr : Copy → Expr
  to_expr (expr at inside form) = plain.expr at inside (to_form form)
  to_expr _ = nothing

  to_form : Copy → Form
  to_form (name n) = plain.name n
  to_form (constant c) = plain.constant c
  to_form (string_annotation x) = plain.string_annotation (to_expr x)
  to_form (tuple xs) = plain.tuple (to_elements xs)
  to_form (list xs) = plain.list (to_elements xs)
  to_form (set xs) = plain.set (to_elements xs)
  to_form (dict xs) = plain.dict (to_dict_items xs)
  to_form (unchecked u) = plain.unchecked u
  to_form (attribute x n) = plain.attribute (to_expr x) n
  to_form (call x xs) = plain.call (to_expr x) (to_arguments xs)
  to_form (subscript x i) = plain.subscript (to_expr x) (to_index i)
  to_form (unary o x) = plain.unary o (to_expr x)
  to_form (binary o x y) = plain.binary o (to_expr x) (to_expr y)
  to_form (boolean o x y) = plain.boolean o (to_expr x) (to_expr y)
  to_form (compare x xs) = plain.compare (to_expr x) (to_comparisons xs)
  to_form (conditional test x y) = plain.conditional (to_expr test) (to_expr x) (to_expr y)
  to_form (await x) = plain.await (to_expr x)
  to_form (yield x) = plain.yield (to_optional x)
  to_form (yield_from x) = plain.yield_from (to_expr x)
  to_form _ = plain.yield plain.absent

  to_optional : Copy → OptionalExpr
  to_optional (present x) = plain.present (to_expr x)
  to_optional _ = plain.absent

  to_element : Copy → Element
  to_element (element starred x) = plain.element starred (to_expr x)
  to_element _ = plain.element false nothing

  to_elements : Copy → Elements
  to_elements (more x xs) = plain.another_element (to_element x) (to_elements xs)
  to_elements _ = plain.no_element

  to_dict_item : Copy → DictItem
  to_dict_item (entry x y) = plain.entry (to_expr x) (to_expr y)
  to_dict_item (unpacking x) = plain.unpacking (to_expr x)
  to_dict_item _ = plain.unpacking nothing

  to_dict_items : Copy → DictItems
  to_dict_items (more x xs) = plain.another_dict_item (to_dict_item x) (to_dict_items xs)
  to_dict_items _ = plain.no_dict_item

  to_argument : Copy → Argument
  to_argument (argument at kind x) = plain.argument at kind (to_expr x)
  to_argument _ = plain.argument start argument_kind.Positional nothing

  to_arguments : Copy → Arguments
  to_arguments (more x xs) = plain.another_argument (to_argument x) (to_arguments xs)
  to_arguments _ = plain.no_argument

  to_comparison : Copy → Comparison
  to_comparison (comparison o x) = plain.comparison o (to_expr x)
  to_comparison _ = plain.comparison comparison_operator.Eq nothing

  to_comparisons : Copy → Comparisons
  to_comparisons (more x xs) = plain.another_comparison (to_comparison x) (to_comparisons xs)
  to_comparisons _ = plain.no_comparison

  to_index : Copy → Index
  to_index (index at form) = plain.index at (to_index_form form)
  to_index _ = plain.index start (plain.item nothing)

  to_index_form : Copy → IndexForm
  to_index_form (item x) = plain.item (to_expr x)
  to_index_form (slice x y z) = plain.slice (to_optional x) (to_optional y) (to_optional z)
  to_index_form (indices xs) = plain.indices (to_indices xs)
  to_index_form _ = plain.item nothing

  to_indices : Copy → Indices
  to_indices (more x xs) = plain.another_index (to_index x) (to_indices xs)
  to_indices _ = plain.no_index

-- ---- the copy gives back what it was made of

abbrev mutual
  back_expr : (x : Expr) → to_expr (of_expr x) ≡ x
  back_expr (plain.expr at inside form) = λ i. plain.expr at inside (back_form form i)

  back_form : (x : Form) → to_form (of_form x) ≡ x
  back_form (plain.name n) = refl
  back_form (plain.constant c) = refl
  back_form (plain.string_annotation x) = λ i. plain.string_annotation (back_expr x i)
  back_form (plain.tuple xs) = λ i. plain.tuple (back_elements xs i)
  back_form (plain.list xs) = λ i. plain.list (back_elements xs i)
  back_form (plain.set xs) = λ i. plain.set (back_elements xs i)
  back_form (plain.dict xs) = λ i. plain.dict (back_dict_items xs i)
  back_form (plain.unchecked u) = refl
  back_form (plain.attribute x n) = λ i. plain.attribute (back_expr x i) n
  back_form (plain.call x xs) = λ i. plain.call (back_expr x i) (back_arguments xs i)
  back_form (plain.subscript x y) = λ i. plain.subscript (back_expr x i) (back_index y i)
  back_form (plain.unary o x) = λ i. plain.unary o (back_expr x i)
  back_form (plain.binary o x y) = λ i. plain.binary o (back_expr x i) (back_expr y i)
  back_form (plain.boolean o x y) = λ i. plain.boolean o (back_expr x i) (back_expr y i)
  back_form (plain.compare x xs) = λ i. plain.compare (back_expr x i) (back_comparisons xs i)
  back_form (plain.conditional test x y) =
      λ i. plain.conditional (back_expr test i) (back_expr x i) (back_expr y i)
  back_form (plain.await x) = λ i. plain.await (back_expr x i)
  back_form (plain.yield x) = λ i. plain.yield (back_optional x i)
  back_form (plain.yield_from x) = λ i. plain.yield_from (back_expr x i)

  back_optional : (x : OptionalExpr) → to_optional (of_optional x) ≡ x
  back_optional plain.absent = refl
  back_optional (plain.present x) = λ i. plain.present (back_expr x i)

  back_element : (x : Element) → to_element (of_element x) ≡ x
  back_element (plain.element starred x) = λ i. plain.element starred (back_expr x i)

  back_elements : (xs : Elements) → to_elements (of_elements xs) ≡ xs
  back_elements plain.no_element = refl
  back_elements (plain.another_element x xs) = λ i. plain.another_element (back_element x i) (back_elements xs i)

  back_dict_item : (x : DictItem) → to_dict_item (of_dict_item x) ≡ x
  back_dict_item (plain.entry x y) = λ i. plain.entry (back_expr x i) (back_expr y i)
  back_dict_item (plain.unpacking x) = λ i. plain.unpacking (back_expr x i)

  back_dict_items : (xs : DictItems) → to_dict_items (of_dict_items xs) ≡ xs
  back_dict_items plain.no_dict_item = refl
  back_dict_items (plain.another_dict_item x xs) =
      λ i. plain.another_dict_item (back_dict_item x i) (back_dict_items xs i)

  back_argument : (x : Argument) → to_argument (of_argument x) ≡ x
  back_argument (plain.argument at kind x) = λ i. plain.argument at kind (back_expr x i)

  back_arguments : (xs : Arguments) → to_arguments (of_arguments xs) ≡ xs
  back_arguments plain.no_argument = refl
  back_arguments (plain.another_argument x xs) =
      λ i. plain.another_argument (back_argument x i) (back_arguments xs i)

  back_comparison : (x : Comparison) → to_comparison (of_comparison x) ≡ x
  back_comparison (plain.comparison o x) = λ i. plain.comparison o (back_expr x i)

  back_comparisons : (xs : Comparisons) → to_comparisons (of_comparisons xs) ≡ xs
  back_comparisons plain.no_comparison = refl
  back_comparisons (plain.another_comparison x xs) =
      λ i. plain.another_comparison (back_comparison x i) (back_comparisons xs i)

  back_index : (x : Index) → to_index (of_index x) ≡ x
  back_index (plain.index at form) = λ i. plain.index at (back_index_form form i)

  back_index_form : (x : IndexForm) → to_index_form (of_index_form x) ≡ x
  back_index_form (plain.item x) = λ i. plain.item (back_expr x i)
  back_index_form (plain.slice x y z) = λ i. plain.slice (back_optional x i) (back_optional y i) (back_optional z i)
  back_index_form (plain.indices xs) = λ i. plain.indices (back_indices xs i)

  back_indices : (xs : Indices) → to_indices (of_indices xs) ≡ xs
  back_indices plain.no_index = refl
  back_indices (plain.another_index x xs) = λ i. plain.another_index (back_index x i) (back_indices xs i)

-- ---- so expressions are a set

retract_set : {A B : Type 0} (to : A → B) (from : B → A) → ((x : A) → from (to x) ≡ x) → IsSet B → IsSet A
retract_set to from back is_set =
    collapsible→set (λ x y p. sym (back x) ∙ ap from (ap to p) ∙ back y)
    (λ x y p q. ap (λ (r : to x ≡ to y). sym (back x) ∙ ap from r ∙ back y) (is_set (to x) (to y) (ap to p) (ap to q)))

pub Expr-set : IsSet Expr
Expr-set =
    retract_set of_expr to_expr back_expr
    (Copy-set (Coded-set position_row.coded) (Coded-set (coded_list coded_ℕ)) (Coded-set constant_row.coded)
    (Coded-set unchecked_row.coded) (Coded-set unary_operator_row.coded) (Coded-set operator_row.coded)
    (Coded-set boolean_operator_row.coded) (Coded-set coded_bool) (Coded-set argument_kind_row.coded)
    (Coded-set comparison_operator_row.coded))
