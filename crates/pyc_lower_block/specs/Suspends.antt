-- Whether a `yield` or an `await` stands in a block, outside lambdas and outside definitions, whose decorators,
-- defaults and annotations do not count either (Python reference 3.13, "Yield expressions" and "Await expression").
use Rattle.std.specs.Prelude.{Bool, true, false, ◌||◌, if◌then◌else◌}
use Rattle.pyc_lower_statement.specs.Suspends.{separated_suspend, header_suspends}
use Rattle.pyc_tree.specs.BlockTrees.{Stmt, CompoundClause, CompoundClauses, Suite, Stmts}
use Rattle.pyc_tree.specs.BlockTrees as tree
use Rattle.pyc_tree.specs.Lines.{Header}
use Rattle.pyc_tree.specs.Lines as line

-- whether a header begins a function or a class
abbrev pub defines : Header → Bool
defines (line.def word_async t name opening parameters closing result) = true
defines (line.class t name) = true
defines (line.class_of t name opening arguments closing) = true
defines _ = false

unfoldable mutual
  pub stmts_suspend : Stmts → Bool
  stmts_suspend tree.no_statement = false
  stmts_suspend (tree.statement s rest) = stmt_suspends s || stmts_suspend rest

  pub stmt_suspends : Stmt → Bool
  stmt_suspends (tree.simple statements) = separated_suspend statements
  stmt_suspends (tree.compound decorators first clauses) = clause_suspends first || clauses_suspend clauses

  pub clause_suspends : CompoundClause → Bool
  clause_suspends (tree.clause h colon s) = if defines h then false else (header_suspends h || suite_suspends s)

  pub clauses_suspend : CompoundClauses → Bool
  clauses_suspend tree.no_clause = false
  clauses_suspend (tree.another c clauses) = clause_suspends c || clauses_suspend clauses

  pub suite_suspends : Suite → Bool
  suite_suspends (tree.inline statements) = separated_suspend statements
  suite_suspends (tree.block statements) = stmts_suspend statements
