-- What an annotation is written as, without positions.
use Rattle.std.proofs.Common.{◌≡◌, ℕ, Bool, true, false, List, [], ◌∷◌, ◌++◌, map, Option, None, Some, if◌then◌else◌, refl, ap, ap₂, ◌∙◌}
use Rattle.std.specs.Prelude.{option_map}
use Rattle.pyc_ast.specs.declared.constant.Constant.{Constant}
use Rattle.pyc_ast.specs.declared.constant.Constant.TheVariants as constant
use Rattle.pyc_ast.specs.declared.position.Position.{Position}
use Rattle.pyc_ast.specs.Exprs.{Expr, expr, Element, element, Elements, no_element, another_element, Index, index, Indices, no_index, another_index, inside_of}
use Rattle.pyc_ast.specs.Exprs as plain
use Rattle.pyc_interfaces.specs.BareExpressions.{nowhere, bare, bare_constant, bare_element, bare_elements, bare_index, bare_indices}
use Rattle.pyc_type_exprs.specs.TypeExprs.{DottedName, TypeExpr, none_written, name_written, union_written, subscript_written, wrong_written, TypeArgument, type_argument, ArgumentShape, ellipsis_shape, list_shape, other_shape, TypeExprs, no_type, another_type, TypeArguments, no_argument, another_argument, type_exprs, type_arguments, dotted, dotted_names, innermost, is_subscript, name_or_wrong, subscript_or_wrong, constant_written, constant_shape, is_bit_or, items_or, type_expr, shape_of, tuple_items, elements_written, element_written, element_arguments, element_argument, index_arguments, indices_arguments, index_argument}

-- ---- without positions

abbrev pub drop_name : DottedName → DottedName
drop_name name = dotted nowhere name.names

abbrev mutual
  pub drop_type : TypeExpr → TypeExpr
  drop_type none_written = none_written
  drop_type (name_written at name) = name_written nowhere (drop_name name)
  drop_type (union_written left right) = union_written (drop_type left) (drop_type right)
  drop_type (subscript_written at name is_nested arguments) = subscript_written nowhere (drop_name name) is_nested (drop_arguments arguments)
  drop_type (wrong_written at) = wrong_written nowhere

  pub drop_arguments : TypeArguments → TypeArguments
  drop_arguments no_argument = no_argument
  drop_arguments (another_argument x rest) = another_argument (drop_argument x) (drop_arguments rest)

  pub drop_argument : TypeArgument → TypeArgument
  drop_argument (type_argument written shape) = type_argument (drop_type written) (drop_shape shape)

  pub drop_shape : ArgumentShape → ArgumentShape
  drop_shape ellipsis_shape = ellipsis_shape
  drop_shape (list_shape types) = list_shape (drop_types types)
  drop_shape other_shape = other_shape

  pub drop_types : TypeExprs → TypeExprs
  drop_types no_type = no_type
  drop_types (another_type x rest) = another_type (drop_type x) (drop_types rest)

arguments-drop : (xs : List TypeArgument) → type_arguments (map drop_argument xs) ≡ drop_arguments (type_arguments xs)
arguments-drop [] = refl
arguments-drop (x ∷ xs) = ap (another_argument (drop_argument x)) (arguments-drop xs)

types-drop : (xs : List TypeExpr) → type_exprs (map drop_type xs) ≡ drop_types (type_exprs xs)
types-drop [] = refl
types-drop (x ∷ xs) = ap (another_type (drop_type x)) (types-drop xs)

-- ---- names

pub dotted_names-bare : (e : Expr) → dotted_names (bare e) ≡ dotted_names e
unfolding dotted_names
dotted_names-bare (expr at inside (plain.name x)) = refl
dotted_names-bare (expr at inside (plain.constant c)) = refl
dotted_names-bare (expr at inside (plain.string_annotation x)) = refl
dotted_names-bare (expr at inside (plain.tuple xs)) = refl
dotted_names-bare (expr at inside (plain.list xs)) = refl
dotted_names-bare (expr at inside (plain.set xs)) = refl
dotted_names-bare (expr at inside (plain.dict xs)) = refl
dotted_names-bare (expr at inside (plain.unchecked o)) = refl
dotted_names-bare (expr at inside (plain.attribute x n)) = ap (option_map (λ names. names ++ (n ∷ []))) (dotted_names-bare x)
dotted_names-bare (expr at inside (plain.call x xs)) = refl
dotted_names-bare (expr at inside (plain.subscript x i)) = refl
dotted_names-bare (expr at inside (plain.unary o x)) = refl
dotted_names-bare (expr at inside (plain.binary o x y)) = refl
dotted_names-bare (expr at inside (plain.boolean o x y)) = refl
dotted_names-bare (expr at inside (plain.compare x xs)) = refl
dotted_names-bare (expr at inside (plain.conditional t x y)) = refl
dotted_names-bare (expr at inside (plain.await x)) = refl
dotted_names-bare (expr at inside (plain.yield x)) = refl
dotted_names-bare (expr at inside (plain.yield_from x)) = refl

pub innermost-bare : (e : Expr) → innermost (bare e) ≡ bare (innermost e)
unfolding innermost
innermost-bare (expr at inside (plain.name x)) = refl
innermost-bare (expr at inside (plain.constant c)) = refl
innermost-bare (expr at inside (plain.string_annotation x)) = refl
innermost-bare (expr at inside (plain.tuple xs)) = refl
innermost-bare (expr at inside (plain.list xs)) = refl
innermost-bare (expr at inside (plain.set xs)) = refl
innermost-bare (expr at inside (plain.dict xs)) = refl
innermost-bare (expr at inside (plain.unchecked o)) = refl
innermost-bare (expr at inside (plain.attribute x n)) = refl
innermost-bare (expr at inside (plain.call x xs)) = refl
innermost-bare (expr at inside (plain.subscript x i)) = innermost-bare x
innermost-bare (expr at inside (plain.unary o x)) = refl
innermost-bare (expr at inside (plain.binary o x y)) = refl
innermost-bare (expr at inside (plain.boolean o x y)) = refl
innermost-bare (expr at inside (plain.compare x xs)) = refl
innermost-bare (expr at inside (plain.conditional t x y)) = refl
innermost-bare (expr at inside (plain.await x)) = refl
innermost-bare (expr at inside (plain.yield x)) = refl
innermost-bare (expr at inside (plain.yield_from x)) = refl

is_subscript-bare : (e : Expr) → is_subscript (bare e) ≡ is_subscript e
is_subscript-bare (expr at inside (plain.name x)) = refl
is_subscript-bare (expr at inside (plain.constant c)) = refl
is_subscript-bare (expr at inside (plain.string_annotation x)) = refl
is_subscript-bare (expr at inside (plain.tuple xs)) = refl
is_subscript-bare (expr at inside (plain.list xs)) = refl
is_subscript-bare (expr at inside (plain.set xs)) = refl
is_subscript-bare (expr at inside (plain.dict xs)) = refl
is_subscript-bare (expr at inside (plain.unchecked o)) = refl
is_subscript-bare (expr at inside (plain.attribute x n)) = refl
is_subscript-bare (expr at inside (plain.call x xs)) = refl
is_subscript-bare (expr at inside (plain.subscript x i)) = refl
is_subscript-bare (expr at inside (plain.unary o x)) = refl
is_subscript-bare (expr at inside (plain.binary o x y)) = refl
is_subscript-bare (expr at inside (plain.boolean o x y)) = refl
is_subscript-bare (expr at inside (plain.compare x xs)) = refl
is_subscript-bare (expr at inside (plain.conditional t x y)) = refl
is_subscript-bare (expr at inside (plain.await x)) = refl
is_subscript-bare (expr at inside (plain.yield x)) = refl
is_subscript-bare (expr at inside (plain.yield_from x)) = refl

pub inside-bare : (e : Expr) → inside_of (bare e) ≡ nowhere
inside-bare (expr at inside form) = refl

-- the names under subscripts
pub names-bare : (e : Expr) → dotted_names (innermost (bare e)) ≡ dotted_names (innermost e)
names-bare e = ap dotted_names (innermost-bare e) ∙ dotted_names-bare (innermost e)

pub names_at-bare : (e : Expr) → inside_of (innermost (bare e)) ≡ nowhere
names_at-bare e = ap inside_of (innermost-bare e) ∙ inside-bare (innermost e)

-- ---- parts

name_or-drop : (at inside : Position) (names : Option (List (List ℕ))) → name_or_wrong nowhere nowhere names ≡ drop_type (name_or_wrong at inside names)
name_or-drop at inside (Some names) = refl
name_or-drop at inside None = refl

subscript_or-drop : (at inside : Position) (is_nested : Bool) (xs : List TypeArgument) (names : Option (List (List ℕ)))
    → subscript_or_wrong nowhere nowhere is_nested (map drop_argument xs) names ≡ drop_type (subscript_or_wrong at inside is_nested xs names)
subscript_or-drop at inside is_nested xs (Some names) = ap (subscript_written nowhere (dotted nowhere names) is_nested) (arguments-drop xs)
subscript_or-drop at inside is_nested xs None = refl

constant-drop : (at : Position) (c : Constant) → constant_written nowhere (bare_constant c) ≡ drop_type (constant_written at c)
constant-drop at constant.None = refl
constant-drop at constant.True = refl
constant-drop at constant.False = refl
constant-drop at constant.Ellipsis = refl
constant-drop at (constant.Integer d) = refl
constant-drop at constant.Float = refl
constant-drop at constant.Imaginary = refl
constant-drop at constant.Str = refl
constant-drop at constant.FormattedStr = refl
constant-drop at constant.Bytes = refl

constant_shape-drop : (c : Constant) → constant_shape (bare_constant c) ≡ drop_shape (constant_shape c)
constant_shape-drop constant.None = refl
constant_shape-drop constant.True = refl
constant_shape-drop constant.False = refl
constant_shape-drop constant.Ellipsis = refl
constant_shape-drop (constant.Integer d) = refl
constant_shape-drop constant.Float = refl
constant_shape-drop constant.Imaginary = refl
constant_shape-drop constant.Str = refl
constant_shape-drop constant.FormattedStr = refl
constant_shape-drop constant.Bytes = refl

union-drop : (at : Position) (is_or : Bool) (left right left' right' : TypeExpr) → left' ≡ drop_type left → right' ≡ drop_type right
    → (if is_or then union_written left' right' else wrong_written nowhere) ≡ drop_type (if is_or then union_written left right else wrong_written at)
union-drop at true left right left' right' l r = ap₂ union_written l r
union-drop at false left right left' right' l r = refl

items_or-drop : (x : TypeArgument) (items : Option (List TypeArgument)) → items_or (drop_argument x) (option_map (map drop_argument) items) ≡ map drop_argument (items_or x items)
items_or-drop x (Some items) = refl
items_or-drop x None = refl

subscript-bare : (at : Position) (x : Expr) (is_nested' is_nested : Bool) (xs xs' : List TypeArgument) → is_nested' ≡ is_nested → xs' ≡ map drop_argument xs
    → subscript_or_wrong nowhere (inside_of (innermost (bare x))) is_nested' xs' (dotted_names (innermost (bare x)))
    ≡ drop_type (subscript_or_wrong at (inside_of (innermost x)) is_nested xs (dotted_names (innermost x)))
subscript-bare at x is_nested' is_nested xs xs' nested same =
    ap (λ p. subscript_or_wrong nowhere p is_nested' xs' (dotted_names (innermost (bare x)))) (names_at-bare x)
    ∙ ap (λ n. subscript_or_wrong nowhere nowhere is_nested' xs' n) (names-bare x)
    ∙ ap (λ b. subscript_or_wrong nowhere nowhere b xs' (dotted_names (innermost x))) nested
    ∙ ap (λ l. subscript_or_wrong nowhere nowhere is_nested l (dotted_names (innermost x))) same
    ∙ subscript_or-drop at (inside_of (innermost x)) is_nested xs (dotted_names (innermost x))

-- ---- expressions

mutual
  pub type_expr-bare : (e : Expr) → type_expr (bare e) ≡ drop_type (type_expr e)
  type_expr-bare (expr at inside (plain.name x)) = ap (name_or_wrong nowhere nowhere) (dotted_names-bare (expr at inside (plain.name x))) ∙ name_or-drop at inside (dotted_names (expr at inside (plain.name x)))
  type_expr-bare (expr at inside (plain.constant c)) = constant-drop at c
  type_expr-bare (expr at inside (plain.string_annotation x)) = type_expr-bare x
  type_expr-bare (expr at inside (plain.tuple xs)) = refl
  type_expr-bare (expr at inside (plain.list xs)) = refl
  type_expr-bare (expr at inside (plain.set xs)) = refl
  type_expr-bare (expr at inside (plain.dict xs)) = refl
  type_expr-bare (expr at inside (plain.unchecked o)) = refl
  type_expr-bare (expr at inside (plain.attribute x n)) = ap (name_or_wrong nowhere nowhere) (dotted_names-bare (expr at inside (plain.attribute x n))) ∙ name_or-drop at inside (dotted_names (expr at inside (plain.attribute x n)))
  type_expr-bare (expr at inside (plain.call x xs)) = refl
  type_expr-bare (expr at inside (plain.subscript x i)) = subscript-bare at x (is_subscript (bare x)) (is_subscript x) (index_arguments i) (index_arguments (bare_index i)) (is_subscript-bare x) (index_arguments-bare i)
  type_expr-bare (expr at inside (plain.unary o x)) = refl
  type_expr-bare (expr at inside (plain.binary o x y)) = union-drop at (is_bit_or o) (type_expr x) (type_expr y) _ _ (type_expr-bare x) (type_expr-bare y)
  type_expr-bare (expr at inside (plain.boolean o x y)) = refl
  type_expr-bare (expr at inside (plain.compare x xs)) = refl
  type_expr-bare (expr at inside (plain.conditional t x y)) = refl
  type_expr-bare (expr at inside (plain.await x)) = refl
  type_expr-bare (expr at inside (plain.yield x)) = refl
  type_expr-bare (expr at inside (plain.yield_from x)) = refl

  shape_of-bare : (e : Expr) → shape_of (bare e) ≡ drop_shape (shape_of e)
  shape_of-bare (expr at inside (plain.name x)) = refl
  shape_of-bare (expr at inside (plain.constant c)) = constant_shape-drop c
  shape_of-bare (expr at inside (plain.string_annotation x)) = refl
  shape_of-bare (expr at inside (plain.tuple xs)) = refl
  shape_of-bare (expr at inside (plain.list xs)) = ap list_shape (ap type_exprs (elements_written-bare xs) ∙ types-drop (elements_written xs))
  shape_of-bare (expr at inside (plain.set xs)) = refl
  shape_of-bare (expr at inside (plain.dict xs)) = refl
  shape_of-bare (expr at inside (plain.unchecked o)) = refl
  shape_of-bare (expr at inside (plain.attribute x n)) = refl
  shape_of-bare (expr at inside (plain.call x xs)) = refl
  shape_of-bare (expr at inside (plain.subscript x i)) = refl
  shape_of-bare (expr at inside (plain.unary o x)) = refl
  shape_of-bare (expr at inside (plain.binary o x y)) = refl
  shape_of-bare (expr at inside (plain.boolean o x y)) = refl
  shape_of-bare (expr at inside (plain.compare x xs)) = refl
  shape_of-bare (expr at inside (plain.conditional t x y)) = refl
  shape_of-bare (expr at inside (plain.await x)) = refl
  shape_of-bare (expr at inside (plain.yield x)) = refl
  shape_of-bare (expr at inside (plain.yield_from x)) = refl

  tuple_items-bare : (e : Expr) → tuple_items (bare e) ≡ option_map (map drop_argument) (tuple_items e)
  tuple_items-bare (expr at inside (plain.name x)) = refl
  tuple_items-bare (expr at inside (plain.constant c)) = refl
  tuple_items-bare (expr at inside (plain.string_annotation x)) = refl
  tuple_items-bare (expr at inside (plain.tuple xs)) = ap Some (element_arguments-bare xs)
  tuple_items-bare (expr at inside (plain.list xs)) = refl
  tuple_items-bare (expr at inside (plain.set xs)) = refl
  tuple_items-bare (expr at inside (plain.dict xs)) = refl
  tuple_items-bare (expr at inside (plain.unchecked o)) = refl
  tuple_items-bare (expr at inside (plain.attribute x n)) = refl
  tuple_items-bare (expr at inside (plain.call x xs)) = refl
  tuple_items-bare (expr at inside (plain.subscript x i)) = refl
  tuple_items-bare (expr at inside (plain.unary o x)) = refl
  tuple_items-bare (expr at inside (plain.binary o x y)) = refl
  tuple_items-bare (expr at inside (plain.boolean o x y)) = refl
  tuple_items-bare (expr at inside (plain.compare x xs)) = refl
  tuple_items-bare (expr at inside (plain.conditional t x y)) = refl
  tuple_items-bare (expr at inside (plain.await x)) = refl
  tuple_items-bare (expr at inside (plain.yield x)) = refl
  tuple_items-bare (expr at inside (plain.yield_from x)) = refl

  elements_written-bare : (xs : Elements) → elements_written (bare_elements xs) ≡ map drop_type (elements_written xs)
  elements_written-bare no_element = refl
  elements_written-bare (another_element x rest) = ap₂ (λ t l. t ∷ l) (element_written-bare x) (elements_written-bare rest)

  element_written-bare : (x : Element) → element_written (bare_element x) ≡ drop_type (element_written x)
  element_written-bare (element false (expr at inside form)) = type_expr-bare (expr at inside form)
  element_written-bare (element true (expr at inside form)) = refl

  element_arguments-bare : (xs : Elements) → element_arguments (bare_elements xs) ≡ map drop_argument (element_arguments xs)
  element_arguments-bare no_element = refl
  element_arguments-bare (another_element x rest) = ap₂ (λ t l. t ∷ l) (element_argument-bare x) (element_arguments-bare rest)

  element_argument-bare : (x : Element) → element_argument (bare_element x) ≡ drop_argument (element_argument x)
  element_argument-bare (element false (expr at inside form)) = ap₂ type_argument (type_expr-bare (expr at inside form)) (shape_of-bare (expr at inside form))
  element_argument-bare (element true (expr at inside form)) = refl

  index_arguments-bare : (i : Index) → index_arguments (bare_index i) ≡ map drop_argument (index_arguments i)
  index_arguments-bare (index at (plain.item e)) =
      ap₂ items_or (ap₂ type_argument (type_expr-bare e) (shape_of-bare e)) (tuple_items-bare e)
      ∙ items_or-drop (type_argument (type_expr e) (shape_of e)) (tuple_items e)
  index_arguments-bare (index at (plain.slice lower upper step)) = refl
  index_arguments-bare (index at (plain.indices items)) = indices_arguments-bare items

  indices_arguments-bare : (i : Indices) → indices_arguments (bare_indices i) ≡ map drop_argument (indices_arguments i)
  indices_arguments-bare no_index = refl
  indices_arguments-bare (another_index x rest) = ap₂ (λ t l. t ∷ l) (index_argument-bare x) (indices_arguments-bare rest)

  index_argument-bare : (i : Index) → index_argument (bare_index i) ≡ drop_argument (index_argument i)
  index_argument-bare (index at (plain.item e)) = ap₂ type_argument (type_expr-bare e) (shape_of-bare e)
  index_argument-bare (index at (plain.slice lower upper step)) = refl
  index_argument-bare (index at (plain.indices items)) = refl
