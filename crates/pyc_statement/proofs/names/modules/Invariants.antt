use Rattle.std.proofs.Common.{◌≡◌, ◌-◌, false}
use Rattle.pyc_tree.specs.SimpleStatements.{separated, all_separated, imported_module}
use Rattle.pyc_tree.specs.StatementView.{module_of}
use Rattle.pyc_statement.proofs.NameSteps.{with_items}
use Rattle.pyc_statement.proofs.names.modules.Given as goal

abbrev pub invariant-loop-turn : goal.invariant-loop-turn
invariant-loop-turn l =
    with_items module_of l.each.items (separated imported_module false (l._turn-end - l._turn) l.tokens.rest.now) ≡ all_separated imported_module false l.fn.tokens.rest.now
