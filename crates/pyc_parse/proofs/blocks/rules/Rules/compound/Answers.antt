use Rattle.pyc_parse.specs.Blocks.{compound_statement}
use Rattle.pyc_tree.proofs.BlockViewLemmas.{block_views}
use Rattle.std.proofs.Common.{arith, rules}
use Rattle.pyc_parse.proofs.blocks.rules.Rules.compound.Goals as goal

pub returns : goal.returns
unfolding compound_statement
returns g c = first_of (grind (arith, block_views), search rules)

pub returns-in_err-first : goal.returns-in_err-first
unfolding compound_statement
returns-in_err-first g c = first_of (grind (arith, block_views), search rules)

pub returns-in_err-first-2 : goal.returns-in_err-first-2
unfolding compound_statement
returns-in_err-first-2 g c = first_of (grind (arith, block_views), search rules)

pub returns-in_err-more : goal.returns-in_err-more
unfolding compound_statement
returns-in_err-more g c = first_of (grind (arith, block_views), search rules)
