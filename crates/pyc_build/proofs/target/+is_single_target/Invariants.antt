use Rattle.pyc_tree.specs.Height.{height}
use Rattle.pyc_tree.specs.View.{tree_of}
use Rattle.pyc_build.proofs.target.+is_single_target.Given as goal

abbrev pub decreases-is_single_target : goal.decreases-is_single_target
decreases-is_single_target l = height (tree_of l.expr.now)
