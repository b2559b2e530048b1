use Rattle.std.proofs.Common.{ap, ◌∙◌}
use Rattle.pyc_iface.specs.PlainWorldView.{world_in}
use Rattle.pyc_interfaces.specs.ChangedLooks.{order_changes}
use Rattle.pyc_names.specs.InterfaceView.{interface_in}
use Rattle.pyc_names.specs.declared.interface.Interface.{Interface as InterfaceOf}
use Rattle.pyc_interfaces.proofs.NotedSteps.{each_noted, all_noted}
use Rattle.pyc_names.specs.NotedLooks.{with_looks}
use Rattle.pyc_names.specs.NotedLooksView.{noted_in}
use Rattle.pyc_interfaces.proofs.orders.Worlds.note_orders.Goals as goal

pub loop-file-preserved : goal.loop-file-preserved
loop-file-preserved c =
    each_noted (λ file. interface_in file.value) (order_changes (world_in c.args.self.now.old.now) (world_in c.args.self.now.new.now)) _ _ _ c.args.files.now c.loop-file.file-index c.file-item.result c.loop-file-test.true c.file-item.is
    (c.in_ok-note_orders_of.ensures ∙ ap (λ (f : InterfaceOf). with_looks (noted_in c.loop-file.looks) (order_changes (world_in c.args.self.now.old.now) (world_in c.args.self.now.new.now) (interface_in f))) c.deref.ensures)
    c.loop-file.invariant

pub returns : goal.returns
returns c =
    all_noted (λ file. interface_in file.value) (order_changes (world_in c.args.self.now.old.now) (world_in c.args.self.now.new.now)) _ _ c.args.files.now c.loop-file.file-index c.loop-file-test.false c.loop-file.invariant
