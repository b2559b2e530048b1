-- Expressions as plain values (Python reference 3.13, "Expressions"; the names are those of CPython's `ast`). Each has
-- the position where it begins, its parentheses included, and the one where it begins within them. A text is its
-- bytes.
use Rattle.std.specs.Prelude.{ℕ, Bool, List, [], ◌∷◌}
use Rattle.pyc_ast.specs.declared.constant.Constant.{Constant}
use Rattle.pyc_ast.specs.declared.constant.Unchecked.{Unchecked}
use Rattle.pyc_ast.specs.declared.expr.ArgumentKind.{ArgumentKind}
use Rattle.pyc_ast.specs.declared.operator.BooleanOperator.{BooleanOperator}
use Rattle.pyc_ast.specs.declared.operator.ComparisonOperator.{ComparisonOperator}
use Rattle.pyc_ast.specs.declared.operator.Operator.{Operator}
use Rattle.pyc_ast.specs.declared.operator.UnaryOperator.{UnaryOperator}
use Rattle.pyc_ast.specs.declared.position.Position.{Position}

mutual
  pub data Expr : Type 0 where
    expr : (at inside : Position) → Form → Expr

  -- what an expression is
  pub data Form : Type 0 where
    name : List ℕ → Form
    constant : Constant → Form
    -- a string that may be an annotation and spells an expression
    string_annotation : Expr → Form
    tuple : Elements → Form
    list : Elements → Form
    set : Elements → Form
    dict : DictItems → Form
    -- what is not looked into
    unchecked : Unchecked → Form
    attribute : Expr → List ℕ → Form
    call : Expr → Arguments → Form
    subscript : Expr → Index → Form
    unary : UnaryOperator → Expr → Form
    binary : Operator → (left right : Expr) → Form
    boolean : BooleanOperator → (left right : Expr) → Form
    compare : Expr → Comparisons → Form
    conditional : (test body orelse : Expr) → Form
    await : Expr → Form
    yield : OptionalExpr → Form
    yield_from : Expr → Form

  -- an expression, or none
  pub data OptionalExpr : Type 0 where
    absent : OptionalExpr
    present : Expr → OptionalExpr

  -- an item of a tuple, a list or a set: whether it stands after `*`, and its value
  pub data Element : Type 0 where
    element : Bool → Expr → Element

  pub data Elements : Type 0 where
    no_element : Elements
    another_element : Element → Elements → Elements

  -- an item of a dictionary: a key and its value, or what stands after `**`
  pub data DictItem : Type 0 where
    entry : (key value : Expr) → DictItem
    unpacking : Expr → DictItem

  pub data DictItems : Type 0 where
    no_dict_item : DictItems
    another_dict_item : DictItem → DictItems → DictItems

  -- an argument: where it begins, how it is given, and its value
  pub data Argument : Type 0 where
    argument : Position → ArgumentKind → Expr → Argument

  pub data Arguments : Type 0 where
    no_argument : Arguments
    another_argument : Argument → Arguments → Arguments

  -- an operator and its right operand
  pub data Comparison : Type 0 where
    comparison : ComparisonOperator → Expr → Comparison

  pub data Comparisons : Type 0 where
    no_comparison : Comparisons
    another_comparison : Comparison → Comparisons → Comparisons

  -- what stands between the brackets of a subscript, and where it begins
  pub data Index : Type 0 where
    index : Position → IndexForm → Index

  pub data IndexForm : Type 0 where
    item : Expr → IndexForm
    slice : (lower upper step : OptionalExpr) → IndexForm
    -- indices with commas
    indices : Indices → IndexForm

  pub data Indices : Type 0 where
    no_index : Indices
    another_index : Index → Indices → Indices

-- ---- the parts of an expression

abbrev pub at_of : Expr → Position
at_of (expr at inside form) = at

abbrev pub inside_of : Expr → Position
inside_of (expr at inside form) = inside

abbrev pub form_in : Expr → Form
form_in (expr at inside form) = form

-- ---- lists of items

abbrev pub elements : List Element → Elements
elements [] = no_element
elements (x ∷ xs) = another_element x (elements xs)

abbrev pub dict_items : List DictItem → DictItems
dict_items [] = no_dict_item
dict_items (x ∷ xs) = another_dict_item x (dict_items xs)

abbrev pub arguments : List Argument → Arguments
arguments [] = no_argument
arguments (x ∷ xs) = another_argument x (arguments xs)

abbrev pub comparisons : List Comparison → Comparisons
comparisons [] = no_comparison
comparisons (x ∷ xs) = another_comparison x (comparisons xs)

abbrev pub indices_of : List Index → Indices
indices_of [] = no_index
indices_of (x ∷ xs) = another_index x (indices_of xs)
