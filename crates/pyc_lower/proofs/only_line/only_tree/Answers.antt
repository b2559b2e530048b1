use Rattle.pyc_lower.proofs.InputLemmas.{lines_none, lines_more}
use Rattle.pyc_lower.proofs.only_line.only_tree.Goals as goal

pub returns-in-empty : goal.returns-in-empty
returns-in-empty c = lines_none c.args.lines.now c.in-empty.len_below

pub returns-in-len2-up : goal.returns-in-len2-up
returns-in-len2-up c = lines_more c.args.lines.now c.in-len2-up.len_at_least
