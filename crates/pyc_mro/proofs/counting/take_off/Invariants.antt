use Rattle.std.proofs.Common.{◌≡◌, ◌++◌, map, take, drop}
use Rattle.pyc_mro.specs.Rows.{rows_in, past}
use Rattle.pyc_mro.specs.Tails.{AreTailCounts}
use Rattle.pyc_mro.proofs.counting.take_off.Given as goal

-- of the rows so far the class is taken off, and those that are left are as they were; and the tails of all are counted
abbrev pub invariant-loop-i : goal.invariant-loop-i
invariant-loop-i l =
    record {
      rows : rows_in l.rows ≡ map (past l.class) (rows_in (take l.i l.initial.rows)) ++ rows_in (drop l.i l.initial.rows);
      counts : AreTailCounts l.counts l.rows;
    }
