use Rattle.std.proofs.Common.{arith, rules}
use Rattle.pyc_tree.proofs.TargetLemmas.{target_forms}
use Rattle.pyc_tree.proofs.HeightLemmas.{heights}
use Rattle.pyc_tree.proofs.ViewLemmas.{views}
use Rattle.pyc_build.proofs.built.display.Goals as goal

pub returns : goal.returns
returns c = first_of (grind (arith, views, heights, target_forms), search rules)
