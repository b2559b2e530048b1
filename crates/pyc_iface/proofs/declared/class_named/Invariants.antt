use Rattle.std.proofs.Common.{◌≡◌, map, drop}
use Rattle.pyc_iface.specs.Members.{class_named}
use Rattle.pyc_members.specs.DeclaredClassView.{declared_class_in}
use Rattle.pyc_iface.proofs.declared.class_named.Given as goal

-- the classes from this one on decide
abbrev pub invariant-loop-class : goal.invariant-loop-class
invariant-loop-class l =
    class_named (map declared_class_in l.classes) l.name
    ≡ class_named (map declared_class_in (drop l.class-index l.classes)) l.name
