use Rattle.std.proofs.Common.{◌≡◌, drop, flat_map, map}
use Rattle.pyc_interfaces.specs.ChangedLooks.{class_looks, unless_named}
use Rattle.pyc_members.specs.DeclaredClassView.{declared_class_in}
use Rattle.pyc_names.specs.NotedLooks.{with_looks}
use Rattle.pyc_names.specs.NotedLooksView.{noted_in}
use Rattle.pyc_interfaces.proofs.class_changes.ClassRows.note_added.Given as goal

-- what is noted, with what the classes that are left add, is the whole
abbrev pub invariant-loop-class : goal.invariant-loop-class
invariant-loop-class l =
    with_looks (noted_in l.looks) (flat_map (λ class. unless_named (map declared_class_in l.self.old.now) class.name (class_looks l.self.module.now class)) (map declared_class_in (drop l.class-index l.self.new.now)))
    ≡ with_looks (noted_in l.fn.looks) (flat_map (λ class. unless_named (map declared_class_in l.self.old.now) class.name (class_looks l.self.module.now class)) (map declared_class_in l.self.new.now))
