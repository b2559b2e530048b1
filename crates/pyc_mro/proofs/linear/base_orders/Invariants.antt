use Rattle.std.proofs.Common.{◌≡◌, length, map, drop}
use Rattle.pyc_mro.specs.MroTable.{base_orders}
use Rattle.pyc_mro.specs.MroView.{order_in}
use Rattle.pyc_mro.specs.Passes.{made_at}
use Rattle.pyc_mro.proofs.MroLemmas.{after_orders}
use Rattle.pyc_mro.proofs.linear.base_orders.Given as goal

-- the orders so far, before those of the bases that are left, are the whole
abbrev pub invariant-loop-base : goal.invariant-loop-base
invariant-loop-base l =
    after_orders (map order_in l.orders.items) (base_orders (length l.made) (made_at l.made) (drop l.base-index l.bases))
    ≡ base_orders (length l.made) (made_at l.made) l.bases
