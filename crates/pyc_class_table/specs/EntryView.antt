-- The plain entry that one of the code is.
use Rattle.pyc_class_table.specs.declared.class_entry.ClassEntry.{ClassEntry}
use Rattle.pyc_class_table.specs.Entries.{Entry}

-- the plain entry that one of the code is
abbrev pub entry_in : ClassEntry → Entry
entry_in entry = record { id = entry.id; bases = entry.bases.items; has_call = entry.has_call }
