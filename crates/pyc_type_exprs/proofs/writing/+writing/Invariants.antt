use Rattle.std.proofs.Common.{◌≡◌, ◌≤◌, ◌++◌, map, drop, reverse}
use Rattle.pyc_ast.proofs.expr.Expr.TheLaws.{the_size}
use Rattle.pyc_ast.specs.Exprs.{elements, indices_of}
use Rattle.pyc_ast.specs.ExprView.{expr_of, element_of, index_of}
use Rattle.pyc_type_exprs.specs.TypeExprs.{elements_written, element_arguments, indices_arguments, type_expr, unions_written}
use Rattle.pyc_type_exprs.specs.TypeExprView.{type_expr_of, type_argument_of}
use Rattle.pyc_type_exprs.proofs.writing.+writing.Given as goal

-- what was written, with what the items that are left are written as, is the whole
abbrev pub invariant-elements_written-loop-item : goal.invariant-elements_written-loop-item
invariant-elements_written-loop-item l =
    map type_expr_of l.types.items ++ elements_written (elements (map element_of (drop l.item-index l.items)))
    ≡ elements_written (elements (map element_of l.items))

abbrev pub invariant-element_arguments-loop-item : goal.invariant-element_arguments-loop-item
invariant-element_arguments-loop-item l =
    map type_argument_of l.arguments.items ++ element_arguments (elements (map element_of (drop l.item-index l.items)))
    ≡ element_arguments (elements (map element_of l.items))

abbrev pub invariant-indices_arguments-loop-item : goal.invariant-indices_arguments-loop-item
invariant-indices_arguments-loop-item l =
    map type_argument_of l.arguments.items ++ indices_arguments (indices_of (map index_of (drop l.item-index l.items)))
    ≡ indices_arguments (indices_of (map index_of l.items))

-- what is left is no deeper, and before those that were found it is the whole
abbrev pub invariant-first_written-loop-left : goal.invariant-first_written-loop-left
invariant-first_written-loop-left l =
    (the_size l.left ≤ the_size l.e)
    × (unions_written (type_expr (expr_of l.left)) (map type_expr_of (reverse l.rights.items))
    ≡ unions_written (type_expr (expr_of l.e)) (map type_expr_of (reverse l.initial.rights.items)))
