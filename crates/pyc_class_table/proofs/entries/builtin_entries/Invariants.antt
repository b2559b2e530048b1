use Rattle.std.proofs.Common.{◌≡◌, map, take}
use Rattle.pyc_class_table.specs.Entries.{builtin_entry}
use Rattle.pyc_class_table.specs.EntryView.{entry_in}
use Rattle.pyc_class_table.proofs.entries.builtin_entries.Given as goal

-- the classes so far have their entries
abbrev pub invariant-loop-class : goal.invariant-loop-class
invariant-loop-class l = map entry_in l.entries.items ≡ map builtin_entry (take l.class-index l.classes)
