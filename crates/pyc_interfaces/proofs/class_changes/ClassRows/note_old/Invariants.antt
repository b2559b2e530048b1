use Rattle.std.proofs.Common.{◌≡◌, drop, flat_map, map}
use Rattle.pyc_iface.specs.Members.{class_named}
use Rattle.pyc_interfaces.specs.ChangedLooks.{class_changes}
use Rattle.pyc_members.specs.DeclaredClassView.{declared_class_in}
use Rattle.pyc_names.specs.NotedLooks.{with_looks}
use Rattle.pyc_names.specs.NotedLooksView.{noted_in}
use Rattle.pyc_interfaces.proofs.class_changes.ClassRows.note_old.Given as goal

-- what is noted, with what differs in the classes that are left, is the whole
abbrev pub invariant-loop-class : goal.invariant-loop-class
invariant-loop-class l =
    with_looks (noted_in l.looks) (flat_map (λ class. class_changes l.self.module.now class (class_named (map declared_class_in l.self.new.now) class.name)) (map declared_class_in (drop l.class-index l.self.old.now)))
    ≡ with_looks (noted_in l.fn.looks) (flat_map (λ class. class_changes l.self.module.now class (class_named (map declared_class_in l.self.new.now) class.name)) (map declared_class_in l.self.old.now))
