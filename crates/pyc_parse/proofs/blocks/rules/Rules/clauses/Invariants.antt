use Rattle.std.proofs.Common.{◌≡◌, ◌-◌}
use Rattle.pyc_parse.specs.Blocks.{block_at, clauses, all_clauses}
use Rattle.pyc_parse.specs.PlacedView.{lines_of}
use Rattle.pyc_parse.proofs.BlockSteps.{with_clauses}
use Rattle.pyc_parse.proofs.blocks.rules.Rules.clauses.Given as goal

abbrev pub invariant-loop-turn : goal.invariant-loop-turn
invariant-loop-turn g l =
    with_clauses l.found.items (clauses (block_at l.self.depth) (l._turn-end - l._turn) l.indent l.so (lines_of l.lines))
    ≡ all_clauses (block_at l.self.depth) l.fn.indent l.fn.after (lines_of l.fn.lines)
