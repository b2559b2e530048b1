use Rattle.std.proofs.Common.{◌∙◌, ◌<◌, arith, rules, ap, map}
use Rattle.std.proofs.lemmas.Grind.{common_steps}
use Rattle.pyc_ast.proofs.expr.Expr.TheLaws.{the_size}
use Rattle.pyc_ast.proofs.expr.Index.TheLaws.{the_size as index_size}
use Rattle.pyc_ast.specs.ExprView.{expr_of}
use Rattle.pyc_type_exprs.specs.TypeExprs.{type_expr, unions_written}
use Rattle.pyc_type_exprs.specs.TypeExprView.{type_expr_of}
use Rattle.pyc_type_exprs.proofs.Unions.{sides_fall, index_falls, one_more}
use Rattle.pyc_type_exprs.proofs.writing.+writing.Goals as goal

pub argument_of-returns-in_err-shape : goal.argument_of-returns-in_err-shape
argument_of-returns-in_err-shape t c = first_of (grind (arith, common_steps), search rules)

pub argument_of-returns-in_err-written : goal.argument_of-returns-in_err-written
argument_of-returns-in_err-written t c = first_of (grind (arith, common_steps), search rules)

pub element_arguments-loop-item-init : goal.element_arguments-loop-item-init
element_arguments-loop-item-init t c = first_of (grind (arith, common_steps), search rules)

pub element_arguments-returns : goal.element_arguments-returns
element_arguments-returns t c = first_of (grind (arith, common_steps), search rules)

pub element_arguments-returns-in_err-arguments : goal.element_arguments-returns-in_err-arguments
element_arguments-returns-in_err-arguments t c = first_of (grind (arith, common_steps), search rules)

pub element_arguments-returns-in_err-element_argument : goal.element_arguments-returns-in_err-element_argument
element_arguments-returns-in_err-element_argument t c = first_of (grind (arith, common_steps), search rules)

pub element_arguments-returns-in_err-push : goal.element_arguments-returns-in_err-push
element_arguments-returns-in_err-push t c = first_of (grind (arith, common_steps), search rules)

pub elements_written-loop-item-init : goal.elements_written-loop-item-init
elements_written-loop-item-init t c = first_of (grind (arith, common_steps), search rules)

pub elements_written-returns : goal.elements_written-returns
elements_written-returns t c = first_of (grind (arith, common_steps), search rules)

pub elements_written-returns-in_err-element_written : goal.elements_written-returns-in_err-element_written
elements_written-returns-in_err-element_written t c = first_of (grind (arith, common_steps), search rules)

pub elements_written-returns-in_err-push : goal.elements_written-returns-in_err-push
elements_written-returns-in_err-push t c = first_of (grind (arith, common_steps), search rules)

pub elements_written-returns-in_err-types : goal.elements_written-returns-in_err-types
elements_written-returns-in_err-types t c = first_of (grind (arith, common_steps), search rules)

pub indices_arguments-loop-item-init : goal.indices_arguments-loop-item-init
indices_arguments-loop-item-init t c = first_of (grind (arith, common_steps), search rules)

pub indices_arguments-returns : goal.indices_arguments-returns
indices_arguments-returns t c = first_of (grind (arith, common_steps), search rules)

pub indices_arguments-returns-in_err-arguments : goal.indices_arguments-returns-in_err-arguments
indices_arguments-returns-in_err-arguments t c = first_of (grind (arith, common_steps), search rules)

pub indices_arguments-returns-in_err-index_argument : goal.indices_arguments-returns-in_err-index_argument
indices_arguments-returns-in_err-index_argument t c = first_of (grind (arith, common_steps), search rules)

pub indices_arguments-returns-in_err-push : goal.indices_arguments-returns-in_err-push
indices_arguments-returns-in_err-push t c = first_of (grind (arith, common_steps), search rules)

pub item_arguments-returns : goal.item_arguments-returns
item_arguments-returns t c = first_of (grind (arith, common_steps), search rules)

pub item_arguments-returns-in_err-argument : goal.item_arguments-returns-in_err-argument
item_arguments-returns-in_err-argument t c = first_of (grind (arith, common_steps), search rules)

pub item_arguments-returns-in_err-items : goal.item_arguments-returns-in_err-items
item_arguments-returns-in_err-items t c = first_of (grind (arith, common_steps), search rules)

pub shape_of-returns-in_err-elements_written-in-List : goal.shape_of-returns-in_err-elements_written-in-List
shape_of-returns-in_err-elements_written-in-List t c = first_of (grind (arith, common_steps), search rules)

pub tuple_items-returns-in_err-element_arguments-in-Tuple : goal.tuple_items-returns-in_err-element_arguments-in-Tuple
tuple_items-returns-in_err-element_arguments-in-Tuple t c = first_of (grind (arith, common_steps), search rules)

pub first_written-type_expr-requires : goal.first_written-type_expr-requires
first_written-type_expr-requires t c =
    let h : the_size c.deref.result.now < the_size c.args.e.now = rw c.deref.ensures (sides_fall c.loop-left.left.now (the_size c.args.e.now) _ _ _ c.loop-left.invariant.0 c.in-Binary.is).1 in
    (omega (arith, h, c.decreases), search rules)

pub first_written-index_arguments-requires : goal.first_written-index_arguments-requires
first_written-index_arguments-requires t c =
    let h : index_size c.deref-in-Subscript.result.now < the_size c.args.e.now = rw c.deref-in-Subscript.ensures (index_falls c.loop-left.left.now (the_size c.args.e.now) _ _ c.loop-left.invariant.0 c.in-Subscript.is) in
    (omega (arith, h, c.decreases), search rules)
