-- How deep the parts of an expression lie: an expression without parts is 1 high.
use Rattle.std.specs.Prelude.{ℕ, suc, max}
use Rattle.pyc_ast.specs.Exprs

abbrev mutual
  pub height : Exprs.Expr → ℕ
  height (Exprs.expr at inside form) = suc (parts_height form)

  -- the height of the highest part of an expression
  pub parts_height : Exprs.Form → ℕ
  parts_height (Exprs.name x) = 0
  parts_height (Exprs.constant found) = 0
  parts_height (Exprs.string_annotation x) = 0
  parts_height (Exprs.tuple items) = elements_height items
  parts_height (Exprs.list items) = elements_height items
  parts_height (Exprs.set items) = elements_height items
  parts_height (Exprs.dict items) = dict_items_height items
  parts_height (Exprs.unchecked found) = 0
  parts_height (Exprs.attribute x n) = height x
  parts_height (Exprs.call x given) = max (height x) (arguments_height given)
  parts_height (Exprs.subscript x brackets) = max (height x) (index_height brackets)
  parts_height (Exprs.unary operator x) = height x
  parts_height (Exprs.binary operator x y) = max (height x) (height y)
  parts_height (Exprs.boolean operator x y) = max (height x) (height y)
  parts_height (Exprs.compare x rest) = max (height x) (comparisons_height rest)
  parts_height (Exprs.conditional test x y) = max (height test) (max (height x) (height y))
  parts_height (Exprs.await x) = height x
  parts_height (Exprs.yield x) = optional_height x
  parts_height (Exprs.yield_from x) = height x

  pub optional_height : Exprs.OptionalExpr → ℕ
  optional_height Exprs.absent = 0
  optional_height (Exprs.present x) = height x

  pub elements_height : Exprs.Elements → ℕ
  elements_height Exprs.no_element = 0
  elements_height (Exprs.another_element x xs) = max (element_height x) (elements_height xs)

  pub element_height : Exprs.Element → ℕ
  element_height (Exprs.element starred x) = height x

  pub dict_items_height : Exprs.DictItems → ℕ
  dict_items_height Exprs.no_dict_item = 0
  dict_items_height (Exprs.another_dict_item x xs) = max (dict_item_height x) (dict_items_height xs)

  pub dict_item_height : Exprs.DictItem → ℕ
  dict_item_height (Exprs.entry x y) = max (height x) (height y)
  dict_item_height (Exprs.unpacking x) = height x

  pub arguments_height : Exprs.Arguments → ℕ
  arguments_height Exprs.no_argument = 0
  arguments_height (Exprs.another_argument x xs) = max (argument_height x) (arguments_height xs)

  pub argument_height : Exprs.Argument → ℕ
  argument_height (Exprs.argument at kind x) = height x

  pub comparisons_height : Exprs.Comparisons → ℕ
  comparisons_height Exprs.no_comparison = 0
  comparisons_height (Exprs.another_comparison x xs) = max (comparison_height x) (comparisons_height xs)

  pub comparison_height : Exprs.Comparison → ℕ
  comparison_height (Exprs.comparison operator x) = height x

  pub index_height : Exprs.Index → ℕ
  index_height (Exprs.index at form) = index_form_height form

  pub index_form_height : Exprs.IndexForm → ℕ
  index_form_height (Exprs.item x) = height x
  index_form_height (Exprs.slice lower upper step) =
      max (optional_height lower) (max (optional_height upper) (optional_height step))
  index_form_height (Exprs.indices items) = indices_height items

  pub indices_height : Exprs.Indices → ℕ
  indices_height Exprs.no_index = 0
  indices_height (Exprs.another_index x xs) = max (index_height x) (indices_height xs)
