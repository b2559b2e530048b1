use Rattle.pyc_parse.proofs.blocks.rules.+block_at.Given as goal

abbrev pub decreases-block_at : goal.decreases-block_at
decreases-block_at l = l.depth
