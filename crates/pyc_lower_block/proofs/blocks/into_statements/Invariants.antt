use Rattle.std.proofs.Common.{◌≡◌, ◌++◌, map, length}
use Rattle.std.specs.Vec.Iter.{into_iter_items, into_iter_len}
use Rattle.pyc_ast.specs.StatementView.{stmt_of as made_of}
use Rattle.pyc_lower_block.specs.Blocks.{stmts_in}
use Rattle.pyc_lower_atom.specs.OriginView.{origin_of}
use Rattle.pyc_tree.specs.BlockTrees as tree
use Rattle.pyc_tree.specs.BlockView.{stmts_before}
use Rattle.pyc_lower_block.proofs.blocks.into_statements.Given as goal

-- the statements made so far, and those of the trees that are left, are those of all, and the iterator counts what is
-- left
abbrev pub invariant-loop-tree : goal.invariant-loop-tree
invariant-loop-tree g l =
    (map made_of l.found.items
    ++ stmts_in g.Q.Quotes.spelled (origin_of l.lowering.origin) (stmts_before (into_iter_items l.tree-iterator) tree.no_statement)
    ≡ stmts_in g.Q.Quotes.spelled (origin_of l.lowering.origin) (stmts_before l.fn.trees.items tree.no_statement))
    × (into_iter_len l.tree-iterator ≡ length (into_iter_items l.tree-iterator))
