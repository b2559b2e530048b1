use Rattle.std.proofs.Common.{◌≡◌, drop}
use Rattle.std.specs.List.{list_any}
use Rattle.pyc_mro.specs.Merge.{stands_in_tail}
use Rattle.pyc_mro.specs.Rows.{rows_in}
use Rattle.pyc_mro.proofs.merging.is_free.Given as goal

-- the answer is that of the rows that are left
abbrev pub invariant-loop-row : goal.invariant-loop-row
invariant-loop-row l =
    list_any (stands_in_tail l.class) (rows_in (drop l.row-index l.rows)) ≡ list_any (stands_in_tail l.class) (rows_in l.rows)
