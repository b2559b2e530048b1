-- What a tree of the grammar assigns to (Python reference 3.13, "Assignment statements"). What no well-formed tree
-- has in such a place is `placeholder`.
use Rattle.std.specs.Prelude.{ℕ, true, false, List, [], ◌∷◌, Option, unwrap_or, option_and_then}
use Rattle.pyc_ast.specs.declared.position.Position.{Position}
use Rattle.pyc_ast.specs.Exprs.{Expr, at_of}
use Rattle.pyc_ast.specs.Targets.{Target, TargetForm, TargetElement, target_elements}
use Rattle.pyc_ast.specs.Targets as plain
use Rattle.pyc_lower_atom.specs.declared.role.Role.TheVariants.{Value}
use Rattle.pyc_lower_expression.specs.Expressions.{expr_in, indices_in, subscript_of, star_at, first_of}
use Rattle.pyc_lower_expression.specs.Expressions as expression
use Rattle.pyc_lower_atom.specs.Origins.{Origin, name_at, position_at}
use Rattle.pyc_tree.specs.Tree.{Tree, Pieces}
use Rattle.pyc_tree.specs.Tree as tree

-- ---- one form, of parts that are lowered

-- a target that begins at its own first token
abbrev pub with_position : Position → TargetForm → Target
with_position at form = plain.target at at form

-- a target in parentheses
abbrev pub in_parentheses : Position → Target → Target
in_parentheses at (plain.target _ inside form) = plain.target at inside form

-- what stands where no well-formed tree has a target
abbrev pub placeholder : Target
placeholder = with_position (at_of expression.placeholder) (plain.unpacking plain.no_target)

-- where a target begins
abbrev pub target_at : Target → Position
target_at (plain.target at inside form) = at

-- an item of a tuple or a list, by its target
abbrev pub element_of : Tree → Target → TargetElement
element_of (tree.starred star e) to = plain.target_element true to
element_of _ to = plain.target_element false to

-- where the first of some items begins: at its star, else with its target
abbrev pub element_at : List TargetElement → Position
element_at [] = target_at placeholder
element_at (plain.target_element starred to ∷ found) = target_at to

abbrev pub first_at : Origin → Pieces → List TargetElement → Position
first_at o items found = unwrap_or (option_and_then (star_at o) (first_of items)) (element_at found)

-- ---- trees, where the text of a string spells this expression

module _ (spelled : List ℕ → Position → Option Expr) where
  unfoldable mutual
    -- the target that a tree is
    pub target_in : Origin → Tree → Target
    target_in o (tree.name t) = with_position (position_at o t) (plain.name (name_at o t))
    target_in o (tree.attribute e dot name) =
        let value = expr_in spelled o Value e in with_position (at_of value) (plain.attribute value (name_at o name))
    target_in o (tree.subscript e opening items closing) =
        let value = expr_in spelled o Value e in
        with_position (at_of value) (plain.subscript value (subscript_of items (indices_in spelled o Value items)))
    target_in o (tree.parenthesized opening e closing) = in_parentheses (position_at o opening) (target_in o e)
    -- no display in curly brackets is a target
    target_in o (tree.display made opening items closing) =
        with_position (position_at o opening) (plain.unpacking (target_elements (elements_in o items)))
    target_in o (tree.bare items) =
        let found = elements_in o items in with_position (first_at o items found)
        (plain.unpacking (target_elements found))
    -- an item after `*` is its target
    target_in o (tree.starred star e) = target_in o e
    target_in o _ = placeholder

    -- the items of a tuple or a list
    pub elements_in : Origin → Pieces → List TargetElement
    elements_in o tree.none = []
    elements_in o (tree.last e) = element_of e (target_in o e) ∷ []
    elements_in o (tree.piece e comma rest) = element_of e (target_in o e) ∷ elements_in o rest
