-- Expressions of an interface without their positions, and without what means nothing as an annotation, a base, a
-- decorator or an initial value (typing specification, "Type expressions").
use Rattle.std.specs.Prelude.{None}
use Rattle.pyc_ast.specs.declared.constant.Constant.{Constant}
use Rattle.pyc_ast.specs.declared.constant.Constant.TheVariants as constant
use Rattle.pyc_ast.specs.declared.constant.Unchecked.TheVariants as opaque
use Rattle.pyc_ast.specs.declared.position.Position.{Position}
use Rattle.pyc_ast.specs.Exprs.{Expr, expr, Form, Element, element, Elements, no_element, another_element, Index, index}
use Rattle.pyc_ast.specs.Exprs.{IndexForm, Indices, no_index, another_index, absent, Argument, argument}
use Rattle.pyc_ast.specs.Exprs as plain

-- the position of all parts
abbrev pub nowhere : Position
nowhere = record { line = 0; column = 0 }

-- an expression of any other form: one that is not looked into
abbrev pub other_form : Form
other_form = plain.unchecked opaque.Lambda

abbrev pub other_expr : Expr
other_expr = expr nowhere nowhere other_form

-- a literal: of an integer its value does not count
abbrev pub bare_constant : Constant → Constant
bare_constant (constant.Integer digit) = constant.Integer None
bare_constant c = c

abbrev mutual
  -- an expression as an annotation, a base or a decorator
  pub bare : Expr → Expr
  bare (expr at inside form) = expr nowhere nowhere (bare_form form)

  pub bare_form : Form → Form
  bare_form (plain.name x) = plain.name x
  bare_form (plain.constant c) = plain.constant (bare_constant c)
  bare_form (plain.string_annotation spelled) = plain.string_annotation (bare spelled)
  bare_form (plain.tuple items) = plain.tuple (bare_elements items)
  bare_form (plain.list items) = plain.list (bare_elements items)
  bare_form (plain.attribute value n) = plain.attribute (bare value) n
  bare_form (plain.subscript value i) = plain.subscript (bare value) (bare_index i)
  bare_form (plain.binary op left right) = plain.binary op (bare left) (bare right)
  bare_form _ = other_form

  pub bare_element : Element → Element
  bare_element (element is_starred value) = element is_starred (bare value)

  pub bare_elements : Elements → Elements
  bare_elements no_element = no_element
  bare_elements (another_element x rest) = another_element (bare_element x) (bare_elements rest)

  pub bare_index : Index → Index
  bare_index (index at form) = index nowhere (bare_index_form form)

  pub bare_index_form : IndexForm → IndexForm
  bare_index_form (plain.item x) = plain.item (bare x)
  bare_index_form (plain.slice lower upper step) = plain.slice absent absent absent
  bare_index_form (plain.indices items) = plain.indices (bare_indices items)

  pub bare_indices : Indices → Indices
  bare_indices no_index = no_index
  bare_indices (another_index x rest) = another_index (bare_index x) (bare_indices rest)

-- an argument of a class
abbrev pub bare_argument : Argument → Argument
bare_argument (argument at kind value) = argument nowhere kind (bare value)

-- ---- values

-- an initial value: a literal or a name, else it means nothing
abbrev pub bare_value_form : Form → Form
bare_value_form (plain.name x) = plain.name x
bare_value_form (plain.constant c) = plain.constant (bare_constant c)
bare_value_form (plain.string_annotation spelled) = plain.string_annotation other_expr
bare_value_form _ = other_form

abbrev pub bare_value : Expr → Expr
bare_value (expr at inside form) = expr nowhere nowhere (bare_value_form form)
