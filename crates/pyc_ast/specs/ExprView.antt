-- The plain expression that one of the code is.
use Rattle.std.specs.Prelude.{Option, None, Some}
use Rattle.std.specs.declared.alloc.Global.{Global}
use Rattle.std.specs.declared.boxed.Box.{Box}
use Rattle.pyc_ast.specs.declared.expr.Argument.{Argument as ArgumentOf}
use Rattle.pyc_ast.specs.declared.expr.Comparison.{Comparison as ComparisonOf}
use Rattle.pyc_ast.specs.declared.expr.DictItem.{DictItem as DictItemOf}
use Rattle.pyc_ast.specs.declared.expr.DictItem.TheFolds.{fold-DictItem, fold-Form, fold-IndexForm, fold-OptionalExpr}
use Rattle.pyc_ast.specs.declared.expr.DictItem.TheFolds.{fold-Argument, fold-Comparison, fold-Element, fold-Expr}
use Rattle.pyc_ast.specs.declared.expr.DictItem.TheFolds.{fold-Index}
use Rattle.pyc_ast.specs.declared.expr.DictItem.TheOpen.{DictItem-F, Form-F, IndexForm-F, OptionalExpr-F, Argument-F}
use Rattle.pyc_ast.specs.declared.expr.DictItem.TheOpen.{Comparison-F, Element-F, Expr-F, Index-F}
use Rattle.pyc_ast.specs.declared.expr.DictItem.TheOpen as layer
use Rattle.pyc_ast.specs.declared.expr.Element.{Element as ElementOf}
use Rattle.pyc_ast.specs.declared.expr.Expr.{Expr as ExprOf}
use Rattle.pyc_ast.specs.declared.expr.Form.{Form as FormOf}
use Rattle.pyc_ast.specs.declared.expr.Index.{Index as IndexOf}
use Rattle.pyc_ast.specs.declared.expr.IndexForm.{IndexForm as IndexFormOf}
use Rattle.pyc_ast.specs.declared.expr.OptionalExpr.{OptionalExpr as OptionalExprOf}
use Rattle.pyc_ast.specs.Exprs.{Expr, Form, OptionalExpr, Element, DictItem, Argument, Comparison, Index, IndexForm}
use Rattle.pyc_ast.specs.Exprs.{elements, dict_items, arguments, comparisons, indices_of}
use Rattle.pyc_ast.specs.Exprs as plain

-- what one layer of the code is, over what its parts are
abbrev pub form_step : Form-F DictItem Form IndexForm OptionalExpr Argument Comparison Element Expr Index → Form
form_step (layer.Name n) = plain.name n
form_step (layer.Constant c) = plain.constant c
form_step (layer.StringAnnotation x) = plain.string_annotation x.value
form_step (layer.Tuple items) = plain.tuple (elements items.items)
form_step (layer.List items) = plain.list (elements items.items)
form_step (layer.Set items) = plain.set (elements items.items)
form_step (layer.Dict items) = plain.dict (dict_items items.items)
form_step (layer.Unchecked o) = plain.unchecked o
form_step (layer.Attribute x n) = plain.attribute x.value n
form_step (layer.Call x items) = plain.call x.value (arguments items.items)
form_step (layer.Subscript x i) = plain.subscript x.value i.value
form_step (layer.Unary o x) = plain.unary o x.value
form_step (layer.Binary o x y) = plain.binary o x.value y.value
form_step (layer.Boolean o x y) = plain.boolean o x.value y.value
form_step (layer.Compare x rest) = plain.compare x.value (comparisons rest.items)
form_step (layer.Conditional test x y) = plain.conditional test.value x.value y.value
form_step (layer.Await x) = plain.await x.value
form_step (layer.Yield x) = plain.yield x
form_step (layer.YieldFrom x) = plain.yield_from x.value

abbrev pub optional_step : OptionalExpr-F DictItem Form IndexForm OptionalExpr Argument Comparison Element Expr Index
    → OptionalExpr
optional_step layer.Absent = plain.absent
optional_step (layer.Present x) = plain.present x.value

abbrev pub dict_item_step : DictItem-F DictItem Form IndexForm OptionalExpr Argument Comparison Element Expr Index
    → DictItem
dict_item_step (layer.Entry x y) = plain.entry x y
dict_item_step (layer.Unpacking x) = plain.unpacking x

abbrev pub index_form_step : IndexForm-F DictItem Form IndexForm OptionalExpr Argument Comparison Element Expr Index
    → IndexForm
index_form_step (layer.Item x) = plain.item x
index_form_step (layer.Slice lower upper step) = plain.slice lower upper step
index_form_step (layer.Indices items) = plain.indices (indices_of items.items)

abbrev pub argument_step : Argument-F DictItem Form IndexForm OptionalExpr Argument Comparison Element Expr Index
    → Argument
argument_step x = plain.argument x.at x.kind x.value

abbrev pub comparison_step : Comparison-F DictItem Form IndexForm OptionalExpr Argument Comparison Element Expr Index
    → Comparison
comparison_step x = plain.comparison x.operator x.right

abbrev pub element_step : Element-F DictItem Form IndexForm OptionalExpr Argument Comparison Element Expr Index
    → Element
element_step x = plain.element x.is_starred x.value

abbrev pub expr_step : Expr-F DictItem Form IndexForm OptionalExpr Argument Comparison Element Expr Index → Expr
expr_step x = plain.expr x.at x.inside x.form

abbrev pub index_step : Index-F DictItem Form IndexForm OptionalExpr Argument Comparison Element Expr Index → Index
index_step x = plain.index x.at x.form

-- what an expression of the code is
abbrev pub form_of : FormOf → Form
form_of =
    fold-Form DictItem Form IndexForm OptionalExpr Argument Comparison Element Expr Index
    dict_item_step form_step index_form_step optional_step argument_step comparison_step element_step expr_step
    index_step

-- an expression, or none
abbrev pub optional_of : OptionalExprOf → OptionalExpr
optional_of =
    fold-OptionalExpr DictItem Form IndexForm OptionalExpr Argument Comparison Element Expr Index
    dict_item_step form_step index_form_step optional_step argument_step comparison_step element_step expr_step
    index_step

-- an item of a dictionary
abbrev pub dict_item_of : DictItemOf → DictItem
dict_item_of =
    fold-DictItem DictItem Form IndexForm OptionalExpr Argument Comparison Element Expr Index
    dict_item_step form_step index_form_step optional_step argument_step comparison_step element_step expr_step
    index_step

-- what stands between the brackets of a subscript
abbrev pub index_form_of : IndexFormOf → IndexForm
index_form_of =
    fold-IndexForm DictItem Form IndexForm OptionalExpr Argument Comparison Element Expr Index
    dict_item_step form_step index_form_step optional_step argument_step comparison_step element_step expr_step
    index_step

-- the plain expression that one of the code is
abbrev pub expr_of : ExprOf → Expr
expr_of =
    fold-Expr DictItem Form IndexForm OptionalExpr Argument Comparison Element Expr Index
    dict_item_step form_step index_form_step optional_step argument_step comparison_step element_step expr_step
    index_step

-- an item of a tuple, a list or a set
abbrev pub element_of : ElementOf → Element
element_of =
    fold-Element DictItem Form IndexForm OptionalExpr Argument Comparison Element Expr Index
    dict_item_step form_step index_form_step optional_step argument_step comparison_step element_step expr_step
    index_step

-- an argument of a call
abbrev pub argument_of : ArgumentOf → Argument
argument_of =
    fold-Argument DictItem Form IndexForm OptionalExpr Argument Comparison Element Expr Index
    dict_item_step form_step index_form_step optional_step argument_step comparison_step element_step expr_step
    index_step

-- an operator and its right operand
abbrev pub comparison_of : ComparisonOf → Comparison
comparison_of =
    fold-Comparison DictItem Form IndexForm OptionalExpr Argument Comparison Element Expr Index
    dict_item_step form_step index_form_step optional_step argument_step comparison_step element_step expr_step
    index_step

-- a subscript's index, and where it begins
abbrev pub index_of : IndexOf → Index
index_of =
    fold-Index DictItem Form IndexForm OptionalExpr Argument Comparison Element Expr Index
    dict_item_step form_step index_form_step optional_step argument_step comparison_step element_step expr_step
    index_step

-- an expression in a box, or none
abbrev pub boxed_of : Option (Box ExprOf Global) → OptionalExpr
boxed_of None = plain.absent
boxed_of (Some x) = plain.present (expr_of x.value)
