use Rattle.std.proofs.Common.{◌≡◌}
use Rattle.pyc_keys.proofs.MarkLemmas.{marked_below}
use Rattle.pyc_keys.specs.KeyTableView.{keys_in}
use Rattle.pyc_keys.proofs.key_table.KeyTable.keep_marked.Given as goal

-- up to this number just the marked ones are held
abbrev pub invariant-loop-number : goal.invariant-loop-number
invariant-loop-number l = keys_in l.self ≡ marked_below l.marks l.number (keys_in l.fn.self)
