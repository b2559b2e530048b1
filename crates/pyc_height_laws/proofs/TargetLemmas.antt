-- No target is higher than the tree of the grammar that it is.
use Rattle.std.proofs.Common.{◌≡◌, ◌≤◌, refl, arith, ℕ, List, Option}
use Rattle.pyc_ast.specs.declared.position.Position.{Position}
use Rattle.pyc_ast.specs.Exprs.{Expr}
use Rattle.pyc_ast.specs.Targets.{Target, target, target_elements}
use Rattle.pyc_height_laws.specs.Heights.{target_height, target_elements_height, target_element_height}
use Rattle.pyc_height_laws.proofs.ExpressionLemmas.{expr_low, indices_low, subscript_low}
use Rattle.pyc_lower_atom.specs.declared.role.Role.TheVariants.{Value}
use Rattle.pyc_lower_atom.specs.Origins.{Origin, position_at}
use Rattle.pyc_lower_expression.specs.Expressions.{indices_in}
use Rattle.pyc_lower_statement.specs.Targets.{in_parentheses, element_of, target_in, elements_in}
use Rattle.pyc_tree.specs.Height as concrete
use Rattle.pyc_tree.specs.Tree.{Tree, Pieces}
use Rattle.pyc_tree.specs.Tree as tree

-- every tree has a height
tall : (t : Tree) → 1 ≤ concrete.height t
unfolding concrete.height
tall (tree.entry key colon value) = omega (arith, tall key)
tall (tree.mapping stars e) = tall e
tall _ = omega arith

in_parentheses_height : (at : Position) (to : Target) → target_height (in_parentheses at to) ≡ target_height to
in_parentheses_height at (target begins inside form) = refl

element_of_height : (t : Tree) (to : Target) → target_element_height (element_of t to) ≡ target_height to
element_of_height (tree.starred star e) to = refl
element_of_height _ to = refl

module _ (spelled : List ℕ → Position → Option Expr) where
  mutual
    unfolding target_in concrete.height

    pub target_low : (o : Origin) (t : Tree) → target_height (target_in spelled o t) ≤ concrete.height t
    target_low o (tree.name t) = omega arith
    target_low o (tree.attribute e dot name) = omega (arith, expr_low spelled o Value e)
    target_low o (tree.subscript e opening items closing) =
        omega (arith, expr_low spelled o Value e, subscript_low items (indices_in spelled o Value items), indices_low spelled o Value items)
    target_low o (tree.parenthesized opening e closing) =
        omega (arith, in_parentheses_height (position_at o opening) (target_in spelled o e), target_low o e)
    target_low o (tree.display made opening items closing) = omega (arith, elements_low o items)
    target_low o (tree.bare items) = omega (arith, elements_low o items)
    target_low o (tree.starred star e) = omega (arith, target_low o e)
    target_low o (tree.entry key colon value) = omega (arith, tall key)
    target_low o (tree.mapping stars e) = omega (arith, tall e)
    target_low o _ = omega arith

    elements_low : (o : Origin) (items : Pieces) → target_elements_height (target_elements (elements_in spelled o items)) ≤ concrete.pieces_height items
    elements_low o tree.none = omega arith
    elements_low o (tree.last e) = omega (arith, element_of_height e (target_in spelled o e), target_low o e)
    elements_low o (tree.piece e comma rest) =
        omega (arith, element_of_height e (target_in spelled o e), target_low o e, elements_low o rest)
