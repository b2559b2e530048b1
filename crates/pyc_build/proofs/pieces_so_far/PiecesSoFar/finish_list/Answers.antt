use Rattle.std.proofs.Common.{◌≡◌, None, refl}
use Rattle.pyc_tree.specs.Tree as tree
use Rattle.pyc_build.proofs.SoFarLemmas.{finish_list_height, finish_list_targets, held_comma}
use Rattle.pyc_tree.proofs.ViewLemmas.{view_Pieces}
use Rattle.pyc_build.proofs.pieces_so_far.PiecesSoFar.finish_list.Goals as goal

pub invariant_of-result : goal.invariant_of-result
invariant_of-result c = record {
  height_is = finish_list_height _ _ _ (view_Pieces c.args.self.each None) c.args.self.heights;
  low = c.args.self.low;
  comma_is = held_comma _ _ tree.none _ (view_Pieces c.args.self.each None) c.args.self.comma_is refl;
  targets_are = finish_list_targets _ _ _ _ (view_Pieces c.args.self.each None) c.args.self.targets_are;
}
