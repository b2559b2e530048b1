use Rattle.std.proofs.Common.{◌≡◌, replicate, None}
use Rattle.pyc_mro.proofs.orders.no_orders.Given as goal

abbrev pub invariant-loop-class : goal.invariant-loop-class
invariant-loop-class l = l.orders.items ≡ replicate l.class None
