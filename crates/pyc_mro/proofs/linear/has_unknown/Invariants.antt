use Rattle.std.proofs.Common.{◌≡◌, map, drop}
use Rattle.std.specs.List.{list_any}
use Rattle.pyc_mro.specs.MroTable.{is_unknown}
use Rattle.pyc_mro.specs.MroView.{order_in}
use Rattle.pyc_mro.proofs.linear.has_unknown.Given as goal

-- the answer is that of the orders that are left
abbrev pub invariant-loop-order : goal.invariant-loop-order
invariant-loop-order l =
    list_any is_unknown (map order_in (drop l.order-index l.orders)) ≡ list_any is_unknown (map order_in l.orders)
