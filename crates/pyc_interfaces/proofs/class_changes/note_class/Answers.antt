use Rattle.pyc_interfaces.proofs.NotedSteps.{class_noted}
use Rattle.pyc_interfaces.proofs.class_changes.note_class.Goals as goal

pub returns : goal.returns
returns c =
    class_noted _ _ _ c.args.module.now c.args.class.now _ _ c.deref.ensures.value c.deref-2.ensures.value c.in_ok-note_bindings.ensures c.in_ok-note_attributes.ensures
