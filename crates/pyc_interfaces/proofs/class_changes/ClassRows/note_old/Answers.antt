use Rattle.std.proofs.Common.{ap, ◌∙◌}
use Rattle.std.proofs.Common.{map}
use Rattle.pyc_iface.specs.Members.{class_named}
use Rattle.pyc_interfaces.specs.ChangedLooks.{class_changes}
use Rattle.pyc_members.specs.DeclaredClassView.{declared_class_in, declared_class_of}
use Rattle.pyc_members.specs.declared.declared_class.DeclaredClass.{DeclaredClass as ClassOf}
use Rattle.pyc_interfaces.proofs.NotedSteps.{each_noted, all_noted}
use Rattle.pyc_names.specs.NotedLooks.{with_looks}
use Rattle.pyc_names.specs.NotedLooksView.{noted_in}
use Rattle.pyc_interfaces.proofs.class_changes.ClassRows.note_old.Goals as goal

pub loop-class-preserved : goal.loop-class-preserved
loop-class-preserved c =
    each_noted declared_class_in (λ d. class_changes c.args.self.now.module.now d (class_named (map declared_class_in c.args.self.now.new.now) d.name)) _ _ _ c.args.self.now.old.now c.loop-class.class-index c.class-item.result c.loop-class-test.true c.class-item.is
    (c.in_ok-note_changes_of.ensures ∙ ap (λ (d : ClassOf). with_looks (noted_in c.loop-class.looks) (class_changes c.args.self.now.module.now (declared_class_of d) (class_named (map declared_class_in c.args.self.now.new.now) d.name))) c.deref.ensures)
    c.loop-class.invariant

pub returns : goal.returns
returns c =
    all_noted declared_class_in (λ d. class_changes c.args.self.now.module.now d (class_named (map declared_class_in c.args.self.now.new.now) d.name)) _ _ c.args.self.now.old.now c.loop-class.class-index c.loop-class-test.false c.loop-class.invariant
