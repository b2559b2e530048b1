use Rattle.std.proofs.Common.{◌≡◌, ◌++◌, option_map}
use Rattle.pyc_mro.specs.Merge.{merge, entry_count}
use Rattle.pyc_mro.specs.Rows.{rows_in}
use Rattle.pyc_mro.proofs.merging.merge_short.Given as goal

-- the classes so far, before the merge of the rows that are left, are the whole
abbrev pub invariant-loop-class : goal.invariant-loop-class
invariant-loop-class l =
    option_map (λ classes. l.classes.items ++ classes) (merge (rows_in l.rows.items)) ≡ merge (rows_in l.initial.rows.items)

abbrev pub decreases-loop-class : goal.decreases-loop-class
decreases-loop-class l = entry_count (rows_in l.rows.items)
