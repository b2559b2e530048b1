use Rattle.pyc_parse.proofs.MisplacedBlocks.{reported}
use Rattle.pyc_parse.proofs.laws.misplaced_lines.Goals as goal

pub returns : goal.returns
returns c = reported
