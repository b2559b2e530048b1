use Rattle.std.proofs.Common.{◌≡◌, ◌++◌, map, drop}
use Rattle.pyc_ast.specs.StatementView.{stmt_of as made_of}
use Rattle.pyc_lower_atom.specs.OriginView.{origin_of}
use Rattle.pyc_lower_statement.specs.Statements.{separated_in, statement_in}
use Rattle.pyc_tree.specs.StatementView.{separated_of, separated_before, last_item_of, statement_of}
use Rattle.pyc_lower_block.proofs.blocks.push_line.Given as goal

-- what was made so far, and the statements that are left, are what was there and all of them
abbrev pub invariant-loop-item : goal.invariant-loop-item
invariant-loop-item g l =
    map made_of l.found.items
    ++ separated_in (statement_in g.Q.Quotes.spelled (origin_of l.lowering.origin)) (separated_before statement_of (drop l.item-index l.item-items) (last_item_of statement_of l.line.last))
    ≡ map made_of l.initial.found.items
    ++ separated_in (statement_in g.Q.Quotes.spelled (origin_of l.lowering.origin)) (separated_of statement_of l.line)
