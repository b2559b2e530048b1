use Rattle.std.proofs.Common.{◌≡◌, ◌-◌, false}
use Rattle.pyc_tree.specs.Parser.{expect_name}
use Rattle.pyc_tree.specs.SimpleStatements.{separated, all_separated}
use Rattle.pyc_tree.specs.StatementView.{token_of}
use Rattle.pyc_statement.proofs.NameSteps.{with_items}
use Rattle.pyc_statement.proofs.names.names.Given as goal

abbrev pub invariant-loop-turn : goal.invariant-loop-turn
invariant-loop-turn l =
    with_items token_of l.each.items (separated expect_name false (l._turn-end - l._turn) l.tokens.rest.now) ≡ all_separated expect_name false l.fn.tokens.rest.now
