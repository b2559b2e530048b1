-- What an annotation is written as (typing specification, "Type expressions"): a string is the expression that it
-- spells, parentheses change nothing, and the items of a tuple in brackets are the arguments.
use Rattle.std.specs.Prelude.{ℕ, Bool, true, false, if◌then◌else◌, List, [], ◌∷◌, ◌++◌, Option, None, Some, option_map}
use Rattle.pyc_ast.specs.declared.constant.Constant.{Constant}
use Rattle.pyc_ast.specs.declared.constant.Constant.TheVariants as constant
use Rattle.pyc_ast.specs.declared.operator.Operator.{Operator}
use Rattle.pyc_ast.specs.declared.operator.Operator.TheVariants as operator
use Rattle.pyc_ast.specs.declared.position.Position.{Position}
use Rattle.pyc_ast.specs.Exprs.{Expr, expr, Element, element, Elements, no_element, another_element, Index, index}
use Rattle.pyc_ast.specs.Exprs.{Indices, no_index, another_index, at_of, inside_of}
use Rattle.pyc_ast.specs.Exprs as plain

-- names joined by dots: where the first of them begins
pub record DottedName : Type 0 where
  pub at : Position
  pub names : List (List ℕ)

mutual
  -- an annotation as it is written
  pub data TypeExpr : Type 0 where
    -- `None`
    none_written : TypeExpr
    -- a name that begins at a position, its parentheses included
    name_written : Position → DottedName → TypeExpr
    -- `X | Y`
    union_written : TypeExpr → TypeExpr → TypeExpr
    -- a name with arguments in brackets, and whether it is subscripted more than once
    subscript_written : Position → DottedName → Bool → TypeArguments → TypeExpr
    -- any other expression
    wrong_written : Position → TypeExpr

  -- an argument in brackets: what it is as a type, and its shape
  pub data TypeArgument : Type 0 where
    type_argument : TypeExpr → ArgumentShape → TypeArgument

  pub data ArgumentShape : Type 0 where
    -- `...`
    ellipsis_shape : ArgumentShape
    -- a list display of types
    list_shape : TypeExprs → ArgumentShape
    -- any other
    other_shape : ArgumentShape

  pub data TypeExprs : Type 0 where
    no_type : TypeExprs
    another_type : TypeExpr → TypeExprs → TypeExprs

  pub data TypeArguments : Type 0 where
    no_argument : TypeArguments
    another_argument : TypeArgument → TypeArguments → TypeArguments

-- ---- lists of items

abbrev pub type_exprs : List TypeExpr → TypeExprs
type_exprs [] = no_type
type_exprs (x ∷ xs) = another_type x (type_exprs xs)

abbrev pub type_arguments : List TypeArgument → TypeArguments
type_arguments [] = no_argument
type_arguments (x ∷ xs) = another_argument x (type_arguments xs)

-- ---- names

-- a name, or names joined by dots; none where another expression stands
unfoldable pub dotted_names : Expr → Option (List (List ℕ))
dotted_names (expr at inside (plain.name x)) = Some (x ∷ [])
dotted_names (expr at inside (plain.attribute value n)) = option_map (λ names. names ++ (n ∷ [])) (dotted_names value)
dotted_names _ = None

-- what stands under all subscripts
unfoldable pub innermost : Expr → Expr
innermost (expr at inside (plain.subscript value i)) = innermost value
innermost e = e

-- whether a subscript stands here
abbrev pub is_subscript : Expr → Bool
is_subscript (expr at inside (plain.subscript value i)) = true
is_subscript _ = false

abbrev pub dotted : Position → List (List ℕ) → DottedName
dotted at names = record { at = at; names = names }

-- a name, where the expression that begins at these positions is one
abbrev pub name_or_wrong : (at inside : Position) → Option (List (List ℕ)) → TypeExpr
name_or_wrong at inside (Some names) = name_written at (dotted inside names)
name_or_wrong at inside None = wrong_written at

-- a subscript, where what is subscripted is a name
abbrev pub subscript_or_wrong : (at inside : Position) → Bool → List TypeArgument → Option (List (List ℕ)) → TypeExpr
subscript_or_wrong at inside is_nested arguments (Some names) =
    subscript_written at (dotted inside names) is_nested (type_arguments arguments)
subscript_or_wrong at inside is_nested arguments None = wrong_written at

-- ---- expressions

-- a constant as an annotation
abbrev pub constant_written : Position → Constant → TypeExpr
constant_written at constant.None = none_written
constant_written at _ = wrong_written at

abbrev pub constant_shape : Constant → ArgumentShape
constant_shape constant.Ellipsis = ellipsis_shape
constant_shape _ = other_shape

-- whether an operator is `|`
abbrev pub is_bit_or : Operator → Bool
is_bit_or operator.BitOr = true
is_bit_or _ = false

-- an argument that no type is
abbrev pub wrong_argument : Position → TypeArgument
wrong_argument at = type_argument (wrong_written at) other_shape

-- an expression in brackets as arguments: the items of a tuple, else itself
abbrev pub items_or : TypeArgument → Option (List TypeArgument) → List TypeArgument
items_or argument (Some items) = items
items_or argument None = argument ∷ []

abbrev mutual
  -- an expression as an annotation
  pub type_expr : Expr → TypeExpr
  type_expr (expr at inside (plain.constant c)) = constant_written at c
  type_expr (expr at inside (plain.name x)) = name_or_wrong at inside (dotted_names (expr at inside (plain.name x)))
  type_expr (expr at inside (plain.attribute value n)) =
      name_or_wrong at inside (dotted_names (expr at inside (plain.attribute value n)))
  type_expr (expr at inside (plain.binary op left right)) =
      if is_bit_or op then union_written (type_expr left) (type_expr right) else wrong_written at
  type_expr (expr at inside (plain.subscript value i)) =
      subscript_or_wrong at (inside_of (innermost value)) (is_subscript value) (index_arguments i)
      (dotted_names (innermost value))
  type_expr (expr at inside (plain.string_annotation spelled)) = type_expr spelled
  type_expr (expr at inside form) = wrong_written at

  -- the shape of an expression as an argument
  pub shape_of : Expr → ArgumentShape
  shape_of (expr at inside (plain.constant c)) = constant_shape c
  shape_of (expr at inside (plain.list items)) = list_shape (type_exprs (elements_written items))
  shape_of (expr at inside form) = other_shape

  -- the items of a tuple as arguments; none where another expression stands
  pub tuple_items : Expr → Option (List TypeArgument)
  tuple_items (expr at inside (plain.tuple items)) = Some (element_arguments items)
  tuple_items (expr at inside form) = None

  -- the items of a list as types: one after `*` is no type
  pub elements_written : Elements → List TypeExpr
  elements_written no_element = []
  elements_written (another_element x rest) = element_written x ∷ elements_written rest

  pub element_written : Element → TypeExpr
  element_written (element false e) = type_expr e
  element_written (element true e) = wrong_written (at_of e)

  -- the items of a tuple as arguments
  pub element_arguments : Elements → List TypeArgument
  element_arguments no_element = []
  element_arguments (another_element x rest) = element_argument x ∷ element_arguments rest

  pub element_argument : Element → TypeArgument
  element_argument (element false e) = type_argument (type_expr e) (shape_of e)
  element_argument (element true e) = wrong_argument (at_of e)

  -- what stands in brackets
  pub index_arguments : Index → List TypeArgument
  index_arguments (index at (plain.item e)) = items_or (type_argument (type_expr e) (shape_of e)) (tuple_items e)
  index_arguments (index at (plain.slice lower upper step)) = wrong_argument at ∷ []
  index_arguments (index at (plain.indices items)) = indices_arguments items

  -- several expressions in brackets, with commas
  pub indices_arguments : Indices → List TypeArgument
  indices_arguments no_index = []
  indices_arguments (another_index x rest) = index_argument x ∷ indices_arguments rest

  pub index_argument : Index → TypeArgument
  index_argument (index at (plain.item e)) = type_argument (type_expr e) (shape_of e)
  index_argument (index at _) = wrong_argument at

-- an expression as an argument
abbrev pub argument_of : Expr → TypeArgument
argument_of e = type_argument (type_expr e) (shape_of e)

-- one expression in brackets as arguments
abbrev pub item_arguments : Expr → List TypeArgument
item_arguments e = items_or (argument_of e) (tuple_items e)

-- `first | .. | last`, by the first and the others
abbrev pub unions_written : TypeExpr → List TypeExpr → TypeExpr
unions_written first [] = first
unions_written first (next ∷ rest) = unions_written (union_written first next) rest
