use Rattle.std.proofs.Common.{◌≡◌, drop}
use Rattle.pyc_interfaces.specs.ChangedLooks.{looks_alone}
use Rattle.pyc_interfaces.specs.HomeView.{look_in}
use Rattle.pyc_names.specs.NotedLooks.{with_looks}
use Rattle.pyc_names.specs.NotedLooksView.{noted_in}
use Rattle.pyc_interfaces.proofs.home.Home.note_all.Given as goal

-- what is noted, with the names of those that are left, is the whole
abbrev pub invariant-loop-item : goal.invariant-loop-item
invariant-loop-item g l =
    with_looks (noted_in l.looks) (looks_alone g.T.Named.name_in g.T.Named.same (look_in l.self) (drop l.item-index l.items))
    ≡ with_looks (noted_in l.fn.looks) (looks_alone g.T.Named.name_in g.T.Named.same (look_in l.self) l.items)
