use Rattle.pyc_iface.specs.PlainWorldView.{world_in}
use Rattle.pyc_interfaces.proofs.BetweenLemmas.{orders_noted}
use Rattle.pyc_interfaces.proofs.orders.Worlds.note_order_changes.Goals as goal

pub returns : goal.returns
returns c =
    orders_noted c.args.common.front c.args.common.back (world_in c.args.self.now.old.now) (world_in c.args.self.now.new.now) _ _ _ _ _ _ _ _
    c.table.ensures c.files.ensures c.table-2.ensures c.files-2.ensures c.between.ensures c.in_ok-note_orders.ensures c.in_ok-note_orders-2.ensures
