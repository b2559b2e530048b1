use Rattle.std.proofs.Common.{◌≡◌, drop}
use Rattle.pyc_lower_block.specs.Suspends.{stmts_suspend, clauses_suspend}
use Rattle.pyc_tree.specs.BlockTrees as tree
use Rattle.pyc_tree.specs.BlockView.{clauses_before, stmts_before}
use Rattle.pyc_lower_block.proofs.suspension.+suspends.Given as goal

-- what is left suspends where all statements do
abbrev pub invariant-statements_suspend-loop-statement : goal.invariant-statements_suspend-loop-statement
invariant-statements_suspend-loop-statement l =
    stmts_suspend (stmts_before (drop l.statement-index l.statements) tree.no_statement) ≡ stmts_suspend (stmts_before l.statements tree.no_statement)

abbrev pub invariant-clauses_suspend-loop-clause : goal.invariant-clauses_suspend-loop-clause
invariant-clauses_suspend-loop-clause l = clauses_suspend (clauses_before (drop l.clause-index l.clauses) tree.no_clause) ≡ clauses_suspend (clauses_before l.clauses tree.no_clause)
