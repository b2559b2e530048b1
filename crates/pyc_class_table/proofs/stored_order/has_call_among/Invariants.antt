use Rattle.std.proofs.Common.{◌≡◌, map, drop}
use Rattle.std.specs.List.{list_any}
use Rattle.pyc_class_table.specs.EntryView.{entry_in}
use Rattle.pyc_class_table.specs.Numbers.{has_call_at}
use Rattle.pyc_class_table.proofs.stored_order.has_call_among.Given as goal

-- those from this one on decide
abbrev pub invariant-loop-number : goal.invariant-loop-number
invariant-loop-number l =
    list_any (has_call_at (map entry_in l.entries)) l.numbers
    ≡ list_any (has_call_at (map entry_in l.entries)) (drop l.number-index l.numbers)
