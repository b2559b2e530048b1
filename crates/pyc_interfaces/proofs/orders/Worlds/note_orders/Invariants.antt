use Rattle.std.proofs.Common.{◌≡◌, drop, flat_map}
use Rattle.pyc_iface.specs.PlainWorldView.{world_in}
use Rattle.pyc_interfaces.specs.ChangedLooks.{order_changes}
use Rattle.pyc_names.specs.InterfaceView.{interfaces_in}
use Rattle.pyc_names.specs.NotedLooks.{with_looks}
use Rattle.pyc_names.specs.NotedLooksView.{noted_in}
use Rattle.pyc_interfaces.proofs.orders.Worlds.note_orders.Given as goal

-- what is noted, with what differs in the orders of the classes of the files that are left, is the whole
abbrev pub invariant-loop-file : goal.invariant-loop-file
invariant-loop-file l =
    with_looks (noted_in l.looks) (flat_map (order_changes (world_in l.self.old.now) (world_in l.self.new.now)) (interfaces_in (drop l.file-index l.files)))
    ≡ with_looks (noted_in l.fn.looks) (flat_map (order_changes (world_in l.self.old.now) (world_in l.self.new.now)) (interfaces_in l.files))
