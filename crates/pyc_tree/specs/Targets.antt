-- What may be assigned to (Python reference 3.13, "Assignment statements").
use Rattle.std.specs.Prelude.{Bool, true, false, not, ◌&&◌, ◌||◌}
use Rattle.pyc_tree.specs.declared.display_kind.DisplayKind.{DisplayKind}
use Rattle.pyc_tree.specs.declared.display_kind.DisplayKind.TheVariants as display_kind
use Rattle.pyc_tree.specs.Tree.{Tree, Pieces}
use Rattle.pyc_tree.specs.Tree as tree

-- whether a display may hold targets
abbrev pub holds_targets : DisplayKind → Bool
holds_targets display_kind.Tuple = true
holds_targets display_kind.List = true
holds_targets _ = false

-- whether a tree is `*` and an operand
abbrev pub is_starred : Tree → Bool
is_starred (tree.starred _ _) = true
is_starred _ = false

unfoldable mutual
  -- whether a tree is a target: a name, an attribute, a subscript, a target in parentheses, or a tuple or list of
  -- targets
  pub is_target : Tree → Bool
  is_target (tree.name _) = true
  is_target (tree.attribute _ _ _) = true
  is_target (tree.subscript _ _ _ _) = true
  is_target (tree.parenthesized _ e _) = is_target e
  is_target (tree.display display_kind _ items _) = holds_targets display_kind && are_targets false items
  is_target (tree.bare items) = are_targets false items
  is_target _ = false

  -- whether items are targets, of which one may be starred, unless one was before
  pub are_targets : Bool → Pieces → Bool
  are_targets was_starred tree.none = true
  are_targets was_starred (tree.last e) = is_item_target e && not (was_starred && is_starred e)
  are_targets was_starred (tree.piece e _ rest) =
      is_item_target e && not (was_starred && is_starred e) && are_targets (was_starred || is_starred e) rest

  -- whether a tree is a target, or a starred one
  pub is_item_target : Tree → Bool
  is_item_target (tree.starred _ e) = is_target e
  is_item_target (tree.name _) = true
  is_item_target (tree.attribute _ _ _) = true
  is_item_target (tree.subscript _ _ _ _) = true
  is_item_target (tree.parenthesized _ e _) = is_target e
  is_item_target (tree.display display_kind _ items _) = holds_targets display_kind && are_targets false items
  is_item_target (tree.bare items) = are_targets false items
  is_item_target _ = false

-- whether a tree is a single target: a name, an attribute or a subscript, perhaps in parentheses
abbrev pub is_single_target : Tree → Bool
is_single_target (tree.name _) = true
is_single_target (tree.attribute _ _ _) = true
is_single_target (tree.subscript _ _ _ _) = true
is_single_target (tree.parenthesized _ e _) = is_single_target e
is_single_target _ = false
