use Rattle.std.proofs.Common.{arith, rules}
use Rattle.pyc_tree.proofs.HeightLemmas.{heights}
use Rattle.pyc_tree.proofs.ViewLemmas.{views}
use Rattle.pyc_build.proofs.chains.clause_and_height.Goals as goal

pub returns-in-For : goal.returns-in-For
returns-in-For c = first_of (grind (arith, views, heights), search rules)

pub returns-in-If : goal.returns-in-If
returns-in-If c = first_of (grind (arith, views, heights), search rules)
