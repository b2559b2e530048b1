use Rattle.std.proofs.Common.{◌≡◌, drop}
use Rattle.pyc_mro.specs.Merge.{first_free}
use Rattle.pyc_mro.specs.Rows.{rows_in}
use Rattle.pyc_mro.proofs.counting.first_free.Given as goal

-- the answer is that of the rows that are left
abbrev pub invariant-loop-row : goal.invariant-loop-row
invariant-loop-row l =
    first_free (rows_in l.rows) (rows_in (drop l.row-index l.rows)) ≡ first_free (rows_in l.rows) (rows_in l.rows)
