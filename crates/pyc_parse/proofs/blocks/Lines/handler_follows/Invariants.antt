use Rattle.std.proofs.Common.{◌≡◌, map, drop}
use Rattle.pyc_parse.specs.PlacedView.{placed_of}
use Rattle.pyc_parse.specs.Blocks.{handler_follows}
use Rattle.pyc_parse.proofs.blocks.Lines.handler_follows.Given as goal

abbrev pub invariant-loop-at : goal.invariant-loop-at
invariant-loop-at l =
    handler_follows l.indent (map placed_of (drop l.at l.self.rest.items)) ≡ handler_follows l.indent (map placed_of (drop 1 l.self.rest.items))
