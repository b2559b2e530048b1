use Rattle.std.proofs.Common.{◌≡◌, ◌-◌}
use Rattle.pyc_tree.specs.SimpleStatements.{separated, all_separated, imported_name}
use Rattle.pyc_tree.specs.StatementView.{name_of}
use Rattle.pyc_statement.proofs.NameSteps.{with_items}
use Rattle.pyc_statement.proofs.names.imported_names.Given as goal

abbrev pub invariant-loop-turn : goal.invariant-loop-turn
invariant-loop-turn l =
    with_items name_of l.each.items (separated imported_name l.may_trail (l._turn-end - l._turn) l.tokens.rest.now) ≡ all_separated imported_name l.may_trail l.fn.tokens.rest.now
