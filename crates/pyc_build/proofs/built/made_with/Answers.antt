use Rattle.std.proofs.Common.{arith, rules}
use Rattle.pyc_tree.proofs.TargetLemmas.{target_forms}
use Rattle.pyc_tree.proofs.HeightLemmas.{heights}
use Rattle.pyc_tree.proofs.ViewLemmas.{views}
use Rattle.pyc_build.proofs.built.made_with.Goals as goal

pub returns : goal.returns
returns c = first_of (grind (arith, views, heights, target_forms), search rules)

pub returns-in_err-expr : goal.returns-in_err-expr
returns-in_err-expr c = first_of (grind (arith, views, heights, target_forms), search rules)

pub returns-then-height-gt-MAX_HEIGHT : goal.returns-then-height-gt-MAX_HEIGHT
returns-then-height-gt-MAX_HEIGHT c = first_of (grind (arith, views, heights, target_forms), search rules)
