use Rattle.std.proofs.Common.{◌≡◌, ◌++◌, map}
use Rattle.pyc_class_table.specs.Entries.{builtin_classes, builtin_entry, with_object}
use Rattle.pyc_class_table.specs.EntryView.{entry_in}
use Rattle.pyc_class_table.proofs.entries.all_entries.Given as goal

-- behind the builtin classes stand the declared ones so far
abbrev pub invariant-loop-entry : goal.invariant-loop-entry
invariant-loop-entry l =
    map entry_in l.entries.items
    ≡ map builtin_entry builtin_classes ++ map with_object (map entry_in l.yielded)
