use Rattle.std.proofs.Common.{◌≡◌, drop, map}
use Rattle.pyc_ast.specs.Exprs.{elements, indices_of}
use Rattle.pyc_ast.specs.ExprView.{element_of, index_of}
use Rattle.pyc_interfaces.specs.SameExpressions.{same_elements, same_indices}
use Rattle.pyc_interfaces.proofs.same_expressions.+same.Given as goal

-- the items that are left decide
abbrev pub invariant-same_elements-loop-i : goal.invariant-same_elements-loop-i
invariant-same_elements-loop-i l =
    same_elements (elements (map element_of (drop l.i l.xs))) (elements (map element_of (drop l.i l.ys)))
    ≡ same_elements (elements (map element_of l.xs)) (elements (map element_of l.ys))

-- the indices that are left decide
abbrev pub invariant-same_indices-loop-i : goal.invariant-same_indices-loop-i
invariant-same_indices-loop-i l =
    same_indices (indices_of (map index_of (drop l.i l.xs))) (indices_of (map index_of (drop l.i l.ys)))
    ≡ same_indices (indices_of (map index_of l.xs)) (indices_of (map index_of l.ys))
