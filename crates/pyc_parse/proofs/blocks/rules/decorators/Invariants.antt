use Rattle.std.proofs.Common.{◌≡◌, ◌-◌, map}
use Rattle.pyc_parse.specs.Blocks.{decorators, all_decorators}
use Rattle.pyc_tree.specs.BlockView.{decorator_of}
use Rattle.pyc_parse.specs.PlacedView.{lines_of}
use Rattle.pyc_parse.proofs.BlockSteps.{with_decorators}
use Rattle.pyc_parse.proofs.blocks.rules.decorators.Given as goal

abbrev pub invariant-loop-turn : goal.invariant-loop-turn
invariant-loop-turn l =
    with_decorators (map decorator_of l.found.items) (decorators (l._turn-end - l._turn) l.indent (lines_of l.lines))
    ≡ all_decorators l.fn.indent (lines_of l.fn.lines)
