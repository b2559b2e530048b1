use Rattle.std.proofs.Common.{◌≡◌, ◌++◌, map, drop}
use Rattle.pyc_ast.specs.StatementView.{stmt_of as made_of, branch_of, handler_of}
use Rattle.pyc_lower_block.specs.Blocks.{stmts_in, branches_in, handlers_in, ending_block_in}
use Rattle.pyc_lower_atom.specs.OriginView.{origin_of}
use Rattle.pyc_tree.specs.BlockTrees as tree
use Rattle.pyc_tree.specs.BlockView.{clauses_before, stmts_before}
use Rattle.pyc_lower_block.proofs.blocks.+blocks.Given as goal

-- the statements made so far, and those of the trees that are left, are those of all
abbrev pub invariant-statements-loop-statement : goal.invariant-statements-loop-statement
invariant-statements-loop-statement g l =
    map made_of l.found.items
    ++ stmts_in g.Q.Quotes.spelled (origin_of l.lowering.origin) (stmts_before (drop l.statement-index l.trees) tree.no_statement)
    ≡ stmts_in g.Q.Quotes.spelled (origin_of l.lowering.origin) (stmts_before l.trees tree.no_statement)

-- the branches made so far, and those of the clauses that are left, are those of all
abbrev pub invariant-branches-loop-clause : goal.invariant-branches-loop-clause
invariant-branches-loop-clause g l =
    map branch_of l.found.items
    ++ branches_in g.Q.Quotes.spelled (origin_of l.lowering.origin) (clauses_before (drop l.clause-index l.clauses) tree.no_clause)
    ≡ branches_in g.Q.Quotes.spelled (origin_of l.lowering.origin) (clauses_before l.clauses tree.no_clause)

-- the handlers made so far, and those of the clauses that are left, are those of all
abbrev pub invariant-handlers-loop-clause : goal.invariant-handlers-loop-clause
invariant-handlers-loop-clause g l =
    map handler_of l.found.items
    ++ handlers_in g.Q.Quotes.spelled (origin_of l.lowering.origin) (clauses_before (drop l.clause-index l.clauses) tree.no_clause)
    ≡ handlers_in g.Q.Quotes.spelled (origin_of l.lowering.origin) (clauses_before l.clauses tree.no_clause)

-- no clause so far ends the statement
abbrev pub invariant-ending_block-loop-clause : goal.invariant-ending_block-loop-clause
invariant-ending_block-loop-clause g l =
    ending_block_in g.Q.Quotes.spelled (origin_of l.lowering.origin) l.ending (clauses_before (drop l.clause-index l.clauses) tree.no_clause)
    ≡ ending_block_in g.Q.Quotes.spelled (origin_of l.lowering.origin) l.ending (clauses_before l.clauses tree.no_clause)
