use Rattle.std.proofs.Common.{◌≡◌, drop}
use Rattle.pyc_interfaces.specs.ChangedLooks.{changes}
use Rattle.pyc_interfaces.specs.HomeView.{look_in}
use Rattle.pyc_names.specs.NotedLooks.{with_looks}
use Rattle.pyc_names.specs.NotedLooksView.{noted_in}
use Rattle.pyc_interfaces.proofs.home.Home.note_changes.Given as goal

-- what is noted, with what differs between those that are left, is the whole
abbrev pub invariant-loop-item : goal.invariant-loop-item
invariant-loop-item g l =
    with_looks (noted_in l.looks) (changes g.T.Named.name_in g.T.Named.same (look_in l.self) (drop l.item-index l.items) l.left)
    ≡ with_looks (noted_in l.fn.looks) (changes g.T.Named.name_in g.T.Named.same (look_in l.self) l.items l.others)
