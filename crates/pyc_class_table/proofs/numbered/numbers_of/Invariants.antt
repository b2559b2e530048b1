use Rattle.std.proofs.Common.{◌≡◌, ◌≤◌, length, map, drop}
use Rattle.pyc_class_table.specs.EntryView.{entry_in}
use Rattle.pyc_class_table.specs.NumberView.{numbers_in}
use Rattle.pyc_class_table.proofs.NumberLemmas.{number_from}
use Rattle.pyc_class_table.proofs.numbered.numbers_of.Given as goal

-- the entries from this one on have their numbers
abbrev pub invariant-loop-left : goal.invariant-loop-left
invariant-loop-left l =
    record {
      within : l.left ≤ length l.entries;
      numbered : numbers_in l.numbers ≡ number_from l.left (map entry_in (drop l.left l.entries));
    }

abbrev pub decreases-loop-left : goal.decreases-loop-left
decreases-loop-left l = l.left
