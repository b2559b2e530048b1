use Rattle.pyc_subscripts.proofs.RowLemmas.{row_length_row}
use Rattle.std.proofs.Common.{arith, rules}
use Rattle.pyc_subscripts.proofs.chosen.chosen_type.Goals as goal

pub returns-in-Place : goal.returns-in-Place
returns-in-Place c = first_of (grind (arith, row_length_row), search rules)

pub returns-in-Last : goal.returns-in-Last
returns-in-Last c = first_of (grind (arith, row_length_row), search rules)
