use Rattle.std.proofs.Common.{◌≡◌, ◌-◌, map}
use Rattle.pyc_tree.specs.SimpleStatements.{parts, all_parts}
use Rattle.pyc_tree.specs.StatementView.{part_of}
use Rattle.pyc_statement.proofs.NameSteps.{with_parts}
use Rattle.pyc_statement.proofs.names.parts.Given as goal

abbrev pub invariant-loop-turn : goal.invariant-loop-turn
invariant-loop-turn l =
    with_parts (map part_of l.found.items) (parts (l._turn-end - l._turn) l.tokens.rest.now) ≡ all_parts l.fn.tokens.rest.now
