use Rattle.std.proofs.Common.{ap, sym, ◌∙◌, Err, arith}
use Rattle.pyc_parse.specs.PlacedView.{lines_of}
use Rattle.pyc_parse.proofs.BlockLemmas.{block_at-more, block_at-none}
use Rattle.pyc_parse.proofs.blocks.rules.+block_at.Goals as goal

pub returns-then-depth-eq0 : goal.returns-then-depth-eq0
returns-then-depth-eq0 t c =
    block_at-none c.args.depth c.args.indent (lines_of c.args.lines.now) (omega arith) ∙ ap Err (sym c.number.ensures)

pub returns : goal.returns
returns t c = rw (block_at-more c.args.depth c.args.indent (lines_of c.args.lines.now) (omega arith)) c.statements.ensures
