use Rattle.std.proofs.Common.{◌≡◌, drop}
use Rattle.std.specs.List.{list_all}
use Rattle.pyc_mro.specs.Merge.{is_empty}
use Rattle.pyc_mro.specs.Rows.{rows_in}
use Rattle.pyc_mro.proofs.merging.are_empty.Given as goal

-- the answer is that of the rows that are left
abbrev pub invariant-loop-row : goal.invariant-loop-row
invariant-loop-row l = list_all is_empty (rows_in (drop l.row-index l.rows)) ≡ list_all is_empty (rows_in l.rows)
