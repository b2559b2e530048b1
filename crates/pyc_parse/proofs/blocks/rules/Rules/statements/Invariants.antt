use Rattle.std.proofs.Common.{◌≡◌, ◌-◌}
use Rattle.pyc_parse.specs.Blocks.{block_at, statements, all_statements}
use Rattle.pyc_parse.specs.PlacedView.{lines_of}
use Rattle.pyc_parse.proofs.BlockSteps.{with_statements}
use Rattle.pyc_parse.proofs.blocks.rules.Rules.statements.Given as goal

abbrev pub invariant-loop-turn : goal.invariant-loop-turn
invariant-loop-turn g l =
    with_statements l.found.items (statements (block_at l.self.depth) (l._turn-end - l._turn) l.indent (lines_of l.lines))
    ≡ all_statements (block_at l.self.depth) l.fn.indent (lines_of l.fn.lines)
