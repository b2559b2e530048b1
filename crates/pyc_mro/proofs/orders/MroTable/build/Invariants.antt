use Rattle.std.proofs.Common.{◌≡◌, ◌<◌, ℕ, length}
use Rattle.pyc_mro.specs.MroTable.{order_of}
use Rattle.pyc_mro.specs.MroView.{stored_at}
use Rattle.pyc_mro.specs.TableView.{table_in}
use Rattle.pyc_mro.proofs.orders.MroTable.build.Given as goal

-- the classes so far have their orders
abbrev pub invariant-loop-class : goal.invariant-loop-class
invariant-loop-class l =
    record {
      count : length l.orders.items ≡ l.class;
      each : (c : ℕ) → c < l.class → stored_at l.orders.items c ≡ order_of (table_in l.bases) c;
    }
