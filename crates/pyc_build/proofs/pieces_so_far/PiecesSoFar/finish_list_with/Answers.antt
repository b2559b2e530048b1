use Rattle.std.proofs.Common.{◌≡◌, ◌∙◌, Some, max, ap, arith, refl}
use Rattle.pyc_tree.specs.Tree as tree
use Rattle.pyc_tree.specs.View.{tree_of}
use Rattle.pyc_build.proofs.SoFarLemmas.{finish_list_with_height, finish_list_with_targets, held_comma}
use Rattle.pyc_tree.proofs.ViewLemmas.{view_Pieces}
use Rattle.pyc_build.proofs.pieces_so_far.PiecesSoFar.finish_list_with.Goals as goal

pub invariant_of-result : goal.invariant_of-result
invariant_of-result c = record {
  height_is = finish_list_with_height _ _ _ _ _ (view_Pieces c.args.self.each (Some c.args.item.expr)) c.args.self.heights (c.taller-height.ensures ∙ ap (max c.args.self.height) c.args.item.height_is);
  low = omega (arith, c.taller-height.ensures, c.args.self.low, c.args.item.low);
  comma_is = held_comma _ _ (tree.last (tree_of c.args.item.expr.value)) _ (view_Pieces c.args.self.each (Some c.args.item.expr)) c.args.self.comma_is refl;
  targets_are = finish_list_with_targets _ _ _ _ _ _ (view_Pieces c.args.self.each (Some c.args.item.expr)) c.args.self.targets_are c.are_still_targets-are_targets.ensures;
}
