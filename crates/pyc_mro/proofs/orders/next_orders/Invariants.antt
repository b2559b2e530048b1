use Rattle.std.proofs.Common.{◌≡◌, ◌<◌, ℕ, length, false}
use Rattle.pyc_mro.specs.TableView.{table_in}
use Rattle.pyc_mro.specs.Passes.{made_at, kept_or_next}
use Rattle.pyc_mro.specs.Tables.{bases_of}
use Rattle.pyc_mro.proofs.orders.next_orders.Given as goal

-- the pass is made of the classes so far
abbrev pub invariant-loop-class : goal.invariant-loop-class
invariant-loop-class l =
    record {
      count : length l.orders.items ≡ l.class;
      each : (c : ℕ) → c < l.class → made_at l.orders.items c ≡ kept_or_next l.made c (bases_of (table_in l.bases) c);
      same : l.has_new ≡ false → (c : ℕ) → c < l.class → made_at l.orders.items c ≡ made_at l.made c;
    }
