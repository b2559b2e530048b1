use Rattle.std.proofs.Common.{◌≡◌, ℕ, ◌<◌, length, map, Some}
use Rattle.pyc_mro.specs.MroView.{order_at}
use Rattle.pyc_class_table.specs.ClassMros.{order_by}
use Rattle.pyc_class_table.specs.EntryView.{entry_in}
use Rattle.pyc_class_table.specs.MroView.{stored_at}
use Rattle.pyc_class_table.proofs.stored_order.stored_orders.Given as goal

-- the orders of the numbers so far are stored
abbrev pub invariant-loop-number : goal.invariant-loop-number
invariant-loop-number l =
    record {
      count : length l.stored.items ≡ l.number;
      each : (n : ℕ) → n < l.number
          → stored_at l.stored.items (Some n) ≡ order_by (map entry_in l.entries) (order_at l.orders n);
    }
