use Rattle.std.proofs.Common.{◌≡◌, drop, flat_map, map}
use Rattle.pyc_iface.specs.PlainWorldView.{world_in}
use Rattle.pyc_interfaces.specs.ChangedLooks.{order_change}
use Rattle.pyc_members.specs.DeclaredClassView.{declared_class_in}
use Rattle.pyc_names.specs.NotedLooks.{with_looks}
use Rattle.pyc_names.specs.NotedLooksView.{noted_in}
use Rattle.pyc_interfaces.proofs.orders.Worlds.note_class_orders.Given as goal

-- what is noted, with what differs in the orders of the classes that are left, is the whole
abbrev pub invariant-loop-class : goal.invariant-loop-class
invariant-loop-class l =
    with_looks (noted_in l.looks) (flat_map (λ class. order_change (world_in l.self.old.now) (world_in l.self.new.now) l.module class.name) (map declared_class_in (drop l.class-index l.classes)))
    ≡ with_looks (noted_in l.fn.looks) (flat_map (λ class. order_change (world_in l.self.old.now) (world_in l.self.new.now) l.module class.name) (map declared_class_in l.classes))
