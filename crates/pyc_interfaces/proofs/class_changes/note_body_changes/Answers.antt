use Rattle.pyc_interfaces.specs.ChangedLooks.{class_name}
use Rattle.pyc_interfaces.proofs.NotedSteps.{body_noted}
use Rattle.pyc_members.specs.DeclaredClassView.{declared_class_of}
use Rattle.pyc_interfaces.proofs.class_changes.note_body_changes.Goals as goal

pub returns : goal.returns
returns c =
    body_noted _ _ _ (class_name c.args.module.now (declared_class_of c.args.class.now)) c.args.class.now c.args.other.now _ _ _ _ c.deref.ensures.value c.deref-2.ensures.value c.deref-3.ensures.value c.deref-4.ensures.value c.in_ok-note_binding_changes.ensures c.in_ok-note_attribute_changes.ensures
