use Rattle.pyc_parse.specs.Blocks.{suite}
use Rattle.pyc_tree.proofs.BlockViewLemmas.{block_views}
use Rattle.std.proofs.Common.{arith, rules}
use Rattle.pyc_parse.proofs.blocks.rules.Rules.suite.Goals as goal

pub returns : goal.returns
unfolding suite
returns g c = first_of (grind (arith, block_views), search rules)

pub returns-in-Some : goal.returns-in-Some
unfolding suite
returns-in-Some g c = first_of (grind (arith, block_views), search rules)

pub returns-in_err-found-in-Some : goal.returns-in_err-found-in-Some
unfolding suite
returns-in_err-found-in-Some g c = first_of (grind (arith, block_views), search rules)

pub returns-then-not-is_none : goal.returns-then-not-is_none
unfolding suite
returns-then-not-is_none g c = first_of (grind (arith, block_views), search rules)
