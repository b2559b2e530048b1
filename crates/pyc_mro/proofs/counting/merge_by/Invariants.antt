use Rattle.std.proofs.Common.{◌≡◌, ◌++◌, option_map}
use Rattle.pyc_mro.specs.Merge.{merge, entry_count}
use Rattle.pyc_mro.specs.Rows.{rows_in}
use Rattle.pyc_mro.specs.Tails.{AreTailCounts}
use Rattle.pyc_mro.proofs.counting.merge_by.Given as goal

-- the classes so far, before the merge of the rows that are left, are the whole; and the tails of these rows are counted
abbrev pub invariant-loop-class : goal.invariant-loop-class
invariant-loop-class l =
    record {
      whole : option_map (λ classes. l.classes.items ++ classes) (merge (rows_in l.rows.items)) ≡ merge (rows_in l.initial.rows.items);
      counts : AreTailCounts l.counts.items l.rows.items;
    }

abbrev pub decreases-loop-class : goal.decreases-loop-class
decreases-loop-class l = entry_count (rows_in l.rows.items)
