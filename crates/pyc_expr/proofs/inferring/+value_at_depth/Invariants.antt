use Rattle.pyc_expr.proofs.inferring.+value_at_depth.Given as goal

abbrev pub decreases-value_at_depth : goal.decreases-value_at_depth
decreases-value_at_depth g l = l.depth
