use Rattle.std.proofs.Common.{sym}
use Rattle.pyc_subscripts.proofs.RowLemmas.{row_length_row}
use Rattle.pyc_assignments.proofs.unpacking.row_length.Goals as goal

pub returns : goal.returns
returns c = sym (row_length_row c.args.items.now)
