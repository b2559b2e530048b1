-- What some constructors of the code are as plain expressions and parts of them.
use Rattle.std.proofs.Common.{◌≡◌, rules, Bool}
use Rattle.std.specs.declared.alloc.Global.{Global}
use Rattle.std.specs.declared.boxed.Box.{Box}
use Rattle.pyc_ast.specs.declared.expr.Argument.{roll-Argument}
use Rattle.pyc_ast.specs.declared.expr.ArgumentKind.{ArgumentKind}
use Rattle.pyc_ast.specs.declared.expr.Comparison.{roll-Comparison}
use Rattle.pyc_ast.specs.declared.expr.DictItem.TheFolds.{the_lemmas}
use Rattle.pyc_ast.specs.declared.expr.DictItem.TheVariants as d
use Rattle.pyc_ast.specs.declared.expr.Element.{roll-Element}
use Rattle.pyc_ast.specs.declared.expr.Expr.{Expr}
use Rattle.pyc_ast.specs.declared.expr.IndexForm.TheVariants as i
use Rattle.pyc_ast.specs.declared.expr.OptionalExpr.{OptionalExpr}
use Rattle.pyc_ast.specs.declared.expr.OptionalExpr.TheVariants as o
use Rattle.pyc_ast.specs.declared.operator.ComparisonOperator.{ComparisonOperator}
use Rattle.pyc_ast.specs.declared.position.Position.{Position}
use Rattle.pyc_ast.specs.Exprs as plain
use Rattle.pyc_ast.specs.ExprView.{expr_of, form_of, element_of, argument_of, comparison_of, dict_item_of, index_form_of, optional_of}

pub view_expr : (x : Expr) → expr_of x ≡ plain.expr x.at x.inside (form_of x.form)
view_expr x = search (rules, the_lemmas)

pub view_element : (starred : Bool) (x : Expr) → element_of (roll-Element (record { is_starred = starred; value = x })) ≡ plain.element starred (expr_of x)
view_element starred x = search (rules, the_lemmas)

pub view_argument : (at : Position) (kind : ArgumentKind) (x : Expr) → argument_of (roll-Argument (record { at = at; kind = kind; value = x })) ≡ plain.argument at kind (expr_of x)
view_argument at kind x = search (rules, the_lemmas)

pub view_comparison : (operator : ComparisonOperator) (x : Expr) → comparison_of (roll-Comparison (record { operator = operator; right = x })) ≡ plain.comparison operator (expr_of x)
view_comparison operator x = search (rules, the_lemmas)

pub view_Entry : (key value : Expr) → dict_item_of (d.Entry key value) ≡ plain.entry (expr_of key) (expr_of value)
view_Entry key value = search (rules, the_lemmas)

pub view_Unpacking : (x : Expr) → dict_item_of (d.Unpacking x) ≡ plain.unpacking (expr_of x)
view_Unpacking x = search (rules, the_lemmas)

pub view_Absent : optional_of o.Absent ≡ plain.absent
view_Absent = search (rules, the_lemmas)

pub view_Present : (x : Box Expr Global) → optional_of (o.Present x) ≡ plain.present (expr_of x.value)
view_Present x = search (rules, the_lemmas)

pub view_Slice : (lower upper step : OptionalExpr) → index_form_of (i.Slice lower upper step) ≡ plain.slice (optional_of lower) (optional_of upper) (optional_of step)
view_Slice lower upper step = search (rules, the_lemmas)

-- what the parts of expressions are as plain ones
pub ruleset views = (view_element, view_argument, view_comparison, view_Entry, view_Unpacking, view_Absent, view_Present, view_Slice)
