use Rattle.std.proofs.Common.{◌≡◌, drop}
use Rattle.pyc_iface.specs.Looks.{first_assigned_looks}
use Rattle.pyc_iface.specs.Members.{first_assigned}
use Rattle.pyc_iface.specs.PlainWorldView.{world_in}
use Rattle.pyc_names.specs.NotedLooks.{with_looks}
use Rattle.pyc_names.specs.NotedLooksView.{noted_in}
use Rattle.pyc_iface.proofs.world.PlainWorld.first_assigned.Given as goal

-- the classes from this one on decide, and what is noted, with what is looked at for them, is the whole
abbrev pub invariant-loop-class : goal.invariant-loop-class
invariant-loop-class l =
    record {
      rest : first_assigned (world_in l.self) l.classes l.name ≡ first_assigned (world_in l.self) (drop l.class-index l.classes) l.name;
      noted : with_looks (noted_in l.looks) (first_assigned_looks (world_in l.self) (drop l.class-index l.classes) l.name)
          ≡ with_looks (noted_in l.fn.looks) (first_assigned_looks (world_in l.self) l.classes l.name);
    }
