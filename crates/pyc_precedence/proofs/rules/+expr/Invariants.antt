use Rattle.pyc_precedence.proofs.rules.+expr.Given as goal

abbrev pub decreases-expr : goal.decreases-expr
decreases-expr l = l.depth
