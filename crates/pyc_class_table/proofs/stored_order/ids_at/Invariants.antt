use Rattle.std.proofs.Common.{◌≡◌, map, take}
use Rattle.pyc_class_table.specs.EntryView.{entry_in}
use Rattle.pyc_class_table.specs.Numbers.{id_at}
use Rattle.pyc_class_table.proofs.stored_order.ids_at.Given as goal

-- the classes of the numbers so far
abbrev pub invariant-loop-number : goal.invariant-loop-number
invariant-loop-number l = l.classes.items ≡ map (id_at (map entry_in l.entries)) (take l.number-index l.numbers)
