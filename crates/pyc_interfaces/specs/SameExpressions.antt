-- When two expressions of interfaces are one without their positions (typing specification, "Type expressions"). Of
-- those that mean nothing, as calls, all are one. Operators other than `|` are reported as others.
use Rattle.std.specs.Prelude.{ℕ, Bool, true, false, not, ◌&&◌, ◌==◌, bytes_eq, Option, None, Some}
use Rattle.std.specs.Bool.{beq}
use Rattle.pyc_ast.specs.declared.constant.Constant.{Constant}
use Rattle.pyc_ast.specs.declared.constant.Constant.TheVariants as constant
use Rattle.pyc_ast.specs.declared.expr.ArgumentKind.{ArgumentKind}
use Rattle.pyc_ast.specs.declared.expr.ArgumentKind.TheVariants as argument_kind
use Rattle.pyc_ast.specs.Exprs.{Expr, expr, Form, Element, element, Elements, no_element, another_element, Index, index}
use Rattle.pyc_ast.specs.Exprs.{IndexForm, Indices, no_index, another_index, Argument, argument, form_in}
use Rattle.pyc_ast.specs.Exprs as plain
use Rattle.pyc_type_exprs.specs.TypeExprs.{is_bit_or}

-- literals by number; the value of an integer does not count
abbrev pub constant_number : Constant → ℕ
constant_number constant.None = 0
constant_number constant.True = 1
constant_number constant.False = 2
constant_number constant.Ellipsis = 3
constant_number (constant.Integer digit) = 4
constant_number constant.Float = 5
constant_number constant.Imaginary = 6
constant_number constant.Str = 7
constant_number constant.FormattedStr = 8
constant_number constant.Bytes = 9

abbrev pub same_constant : Constant → Constant → Bool
same_constant c d = constant_number c == constant_number d

-- whether expressions of this form may mean something as an annotation, a base or a decorator
abbrev pub is_read : Form → Bool
is_read (plain.name x) = true
is_read (plain.constant c) = true
is_read (plain.string_annotation x) = true
is_read (plain.tuple xs) = true
is_read (plain.list xs) = true
is_read (plain.attribute x n) = true
is_read (plain.subscript x i) = true
is_read (plain.binary o x y) = true
is_read _ = false

abbrev mutual
  -- whether two expressions are one
  pub same_expr : Expr → Expr → Bool
  same_expr (expr at inside x) (expr there within y) = same_form x y

  pub same_form : Form → Form → Bool
  same_form (plain.name x) (plain.name y) = bytes_eq x y
  same_form (plain.constant c) (plain.constant d) = same_constant c d
  same_form (plain.string_annotation x) (plain.string_annotation y) = same_expr x y
  same_form (plain.tuple xs) (plain.tuple ys) = same_elements xs ys
  same_form (plain.list xs) (plain.list ys) = same_elements xs ys
  same_form (plain.attribute x m) (plain.attribute y n) = same_expr x y && bytes_eq m n
  same_form (plain.subscript x i) (plain.subscript y j) = same_expr x y && same_index i j
  same_form (plain.binary o x y) (plain.binary p z w) =
      (is_bit_or o && is_bit_or p) && (same_expr x z && same_expr y w)
  same_form (plain.name x) _ = false
  same_form (plain.constant c) _ = false
  same_form (plain.string_annotation x) _ = false
  same_form (plain.tuple xs) _ = false
  same_form (plain.list xs) _ = false
  same_form (plain.attribute x m) _ = false
  same_form (plain.subscript x i) _ = false
  same_form (plain.binary o x y) _ = false
  same_form _ y = not (is_read y)

  pub same_element : Element → Element → Bool
  same_element (element is_starred x) (element other y) = beq is_starred other && same_expr x y

  pub same_elements : Elements → Elements → Bool
  same_elements no_element no_element = true
  same_elements (another_element x xs) (another_element y ys) = same_element x y && same_elements xs ys
  same_elements _ _ = false

  pub same_index : Index → Index → Bool
  same_index (index at x) (index there y) = same_index_form x y

  pub same_index_form : IndexForm → IndexForm → Bool
  same_index_form (plain.item x) (plain.item y) = same_expr x y
  same_index_form (plain.slice lower upper step) (plain.slice low up by) = true
  same_index_form (plain.indices xs) (plain.indices ys) = same_indices xs ys
  same_index_form _ _ = false

  pub same_indices : Indices → Indices → Bool
  same_indices no_index no_index = true
  same_indices (another_index x xs) (another_index y ys) = same_index x y && same_indices xs ys
  same_indices _ _ = false

-- whether both are there and one, or neither is there
abbrev pub same_optional : Option Expr → Option Expr → Bool
same_optional (Some x) (Some y) = same_expr x y
same_optional None None = true
same_optional _ _ = false

-- ---- arguments of classes

-- whether two arguments are given alike
abbrev pub same_kind : ArgumentKind → ArgumentKind → Bool
same_kind argument_kind.Positional argument_kind.Positional = true
same_kind argument_kind.Starred argument_kind.Starred = true
same_kind (argument_kind.Keyword m) (argument_kind.Keyword n) = bytes_eq m n
same_kind argument_kind.DoubleStarred argument_kind.DoubleStarred = true
same_kind _ _ = false

abbrev pub same_argument : Argument → Argument → Bool
same_argument (argument at kind x) (argument there other y) = same_kind kind other && same_expr x y

-- ---- initial values

-- whether a value is a literal or a name
abbrev pub counts : Form → Bool
counts (plain.name x) = true
counts (plain.constant c) = true
counts (plain.string_annotation x) = true
counts _ = false

-- whether two initial values are one: of what is no literal and no name, all are
abbrev pub same_value_form : Form → Form → Bool
same_value_form (plain.name x) (plain.name y) = bytes_eq x y
same_value_form (plain.constant c) (plain.constant d) = same_constant c d
same_value_form (plain.string_annotation x) (plain.string_annotation y) = true
same_value_form (plain.name x) _ = false
same_value_form (plain.constant c) _ = false
same_value_form (plain.string_annotation x) _ = false
same_value_form _ y = not (counts y)

abbrev pub same_value : Expr → Expr → Bool
same_value x y = same_value_form (form_in x) (form_in y)
