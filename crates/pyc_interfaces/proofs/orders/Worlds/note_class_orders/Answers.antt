use Rattle.std.proofs.Common.{ap, ◌∙◌}
use Rattle.pyc_iface.specs.PlainWorldView.{world_in}
use Rattle.pyc_interfaces.specs.ChangedLooks.{order_change}
use Rattle.pyc_members.specs.DeclaredClassView.{declared_class_in}
use Rattle.pyc_members.specs.declared.declared_class.DeclaredClass.{DeclaredClass as ClassOf}
use Rattle.pyc_interfaces.proofs.NotedSteps.{each_noted, all_noted}
use Rattle.pyc_names.specs.NotedLooks.{with_looks}
use Rattle.pyc_names.specs.NotedLooksView.{noted_in}
use Rattle.pyc_interfaces.proofs.orders.Worlds.note_class_orders.Goals as goal

pub loop-class-preserved : goal.loop-class-preserved
loop-class-preserved c =
    each_noted declared_class_in (λ d. order_change (world_in c.args.self.now.old.now) (world_in c.args.self.now.new.now) c.args.module.now d.name) _ _ _ c.args.classes.now c.loop-class.class-index c.class-item.result c.loop-class-test.true c.class-item.is
    (c.in_ok-note_order.ensures ∙ ap (λ (d : ClassOf). with_looks (noted_in c.loop-class.looks) (order_change (world_in c.args.self.now.old.now) (world_in c.args.self.now.new.now) c.args.module.now d.name)) c.deref.ensures)
    c.loop-class.invariant

pub returns : goal.returns
returns c =
    all_noted declared_class_in (λ d. order_change (world_in c.args.self.now.old.now) (world_in c.args.self.now.new.now) c.args.module.now d.name) _ _ c.args.classes.now c.loop-class.class-index c.loop-class-test.false c.loop-class.invariant
