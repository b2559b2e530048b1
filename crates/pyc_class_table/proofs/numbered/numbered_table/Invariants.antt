use Rattle.std.proofs.Common.{◌≡◌, map, take}
use Rattle.pyc_mro.specs.TableView.{table_in}
use Rattle.pyc_class_table.specs.EntryView.{entry_in}
use Rattle.pyc_class_table.specs.Numbers.{numbered_table}
use Rattle.pyc_class_table.specs.NumberView.{numbers_in}
use Rattle.pyc_class_table.proofs.numbered.numbered_table.Given as goal

-- the bases of the entries so far stand by their numbers
abbrev pub invariant-loop-entry : goal.invariant-loop-entry
invariant-loop-entry l =
    table_in l.table.items ≡ numbered_table (numbers_in l.numbers) (map entry_in (take l.entry-index l.entries))
