use Rattle.std.proofs.Common.{◌≡◌, map, take}
use Rattle.pyc_mro.specs.MroTable.{Mro}
use Rattle.pyc_mro.specs.MroView.{order_in}
use Rattle.pyc_mro.specs.Rows.{rows_in}
use Rattle.pyc_mro.proofs.linear.merged_rows.Given as goal

-- the rows so far are those of the orders so far
abbrev pub invariant-loop-order : goal.invariant-loop-order
invariant-loop-order l =
    rows_in l.rows.items ≡ map (λ (order : Mro). order.classes) (map order_in (take l.order-index l.orders))
