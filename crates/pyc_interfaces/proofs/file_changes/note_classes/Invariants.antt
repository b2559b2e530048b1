use Rattle.std.proofs.Common.{◌≡◌, drop, flat_map, map}
use Rattle.pyc_interfaces.specs.ChangedLooks.{class_looks}
use Rattle.pyc_members.specs.DeclaredClassView.{declared_class_in}
use Rattle.pyc_names.specs.NotedLooks.{with_looks}
use Rattle.pyc_names.specs.NotedLooksView.{noted_in}
use Rattle.pyc_interfaces.proofs.file_changes.note_classes.Given as goal

-- what is noted, with all of the classes that are left, is the whole
abbrev pub invariant-loop-class : goal.invariant-loop-class
invariant-loop-class l =
    with_looks (noted_in l.looks) (flat_map (class_looks l.module) (map declared_class_in (drop l.class-index l.classes)))
    ≡ with_looks (noted_in l.fn.looks) (flat_map (class_looks l.module) (map declared_class_in l.classes))
