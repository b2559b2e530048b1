use Rattle.std.proofs.Common.{arith, rules}
use Rattle.pyc_tree.proofs.TargetLemmas.{target_forms}
use Rattle.pyc_tree.proofs.HeightLemmas.{heights}
use Rattle.pyc_tree.proofs.ViewLemmas.{views}
use Rattle.pyc_build.proofs.built.after.Goals as goal

pub returns : goal.returns
returns c = first_of (grind (arith, views, heights, target_forms), search rules)

pub returns-in_err-mark : goal.returns-in_err-mark
returns-in_err-mark c = first_of (grind (arith, views, heights, target_forms), search rules)
