-- How high the highest statement, header or decorator is in the statements of the grammar: 0 where there is none.
use Rattle.std.proofs.Common.{ℕ, max, List, [], ◌∷◌}
use Rattle.pyc_tree.specs.BlockTrees.{Decorator, Stmt, CompoundClause, CompoundClauses, Suite, Stmts}
use Rattle.pyc_tree.specs.BlockTrees as tree
use Rattle.pyc_tree.specs.Height as concrete
use Rattle.pyc_tree.specs.Lines.{header_height, statements_height}

abbrev pub marks_top : List Decorator → ℕ
marks_top [] = 0
marks_top (mark ∷ marks) = max (concrete.height mark.value) (marks_top marks)

abbrev mutual
  pub stmt_top : Stmt → ℕ
  stmt_top (tree.simple found) = statements_height found
  stmt_top (tree.compound marks first clauses) = max (marks_top marks) (max (clause_top first) (clauses_top clauses))

  pub clause_top : CompoundClause → ℕ
  clause_top (tree.clause h colon s) = max (header_height h) (suite_top s)

  pub clauses_top : CompoundClauses → ℕ
  clauses_top tree.no_clause = 0
  clauses_top (tree.another c clauses) = max (clause_top c) (clauses_top clauses)

  pub suite_top : Suite → ℕ
  suite_top (tree.inline found) = statements_height found
  suite_top (tree.block found) = stmts_top found

  pub stmts_top : Stmts → ℕ
  stmts_top tree.no_statement = 0
  stmts_top (tree.statement s rest) = max (stmt_top s) (stmts_top rest)
