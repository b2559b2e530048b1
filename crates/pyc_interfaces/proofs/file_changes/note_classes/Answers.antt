use Rattle.std.proofs.Common.{ap, ◌∙◌}
use Rattle.pyc_interfaces.specs.ChangedLooks.{class_looks}
use Rattle.pyc_members.specs.DeclaredClassView.{declared_class_in, declared_class_of}
use Rattle.pyc_members.specs.declared.declared_class.DeclaredClass.{DeclaredClass as ClassOf}
use Rattle.pyc_interfaces.proofs.NotedSteps.{each_noted, all_noted}
use Rattle.pyc_names.specs.NotedLooks.{with_looks}
use Rattle.pyc_names.specs.NotedLooksView.{noted_in}
use Rattle.pyc_interfaces.proofs.file_changes.note_classes.Goals as goal

pub loop-class-preserved : goal.loop-class-preserved
loop-class-preserved c =
    each_noted declared_class_in (class_looks c.args.module.now) _ _ _ c.args.classes.now c.loop-class.class-index c.class-item.result c.loop-class-test.true c.class-item.is
    (c.in_ok-note_class.ensures ∙ ap (λ (d : ClassOf). with_looks (noted_in c.loop-class.looks) (class_looks c.args.module.now (declared_class_of d))) c.deref.ensures)
    c.loop-class.invariant

pub returns : goal.returns
returns c =
    all_noted declared_class_in (class_looks c.args.module.now) _ _ c.args.classes.now c.loop-class.class-index c.loop-class-test.false c.loop-class.invariant
