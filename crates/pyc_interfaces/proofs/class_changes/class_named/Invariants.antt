use Rattle.std.proofs.Common.{◌≡◌, drop, map}
use Rattle.pyc_iface.specs.Members.{class_named}
use Rattle.pyc_members.specs.DeclaredClassView.{declared_class_in}
use Rattle.pyc_interfaces.proofs.class_changes.class_named.Given as goal

-- the first among those that are left is the first among all
abbrev pub invariant-loop-class : goal.invariant-loop-class
invariant-loop-class l =
    class_named (map declared_class_in (drop l.class-index l.classes)) l.name
    ≡ class_named (map declared_class_in l.classes) l.name
