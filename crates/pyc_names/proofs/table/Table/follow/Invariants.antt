use Rattle.std.proofs.Common.{◌≡◌, ◌-◌}
use Rattle.pyc_names.specs.Following.{walk}
use Rattle.pyc_names.specs.FollowingView.{qualified_of}
use Rattle.pyc_names.specs.Looks.{walk_looks}
use Rattle.pyc_names.specs.NotedLooks.{with_looks}
use Rattle.pyc_names.specs.NotedLooksView.{noted_in}
use Rattle.pyc_names.specs.TableView.{table_in}
use Rattle.pyc_names.proofs.table.Table.follow.Given as goal

-- what is left of the walk comes to what the whole comes to, and what is noted, with what it looks at, is the whole
abbrev pub invariant-loop-turn : goal.invariant-loop-turn
invariant-loop-turn l =
    record {
      rest : walk (l.self.steps - l.turn) (table_in l.self) (qualified_of l.at) ≡ walk l.self.steps (table_in l.self) (qualified_of l.q);
      noted : with_looks (noted_in l.looks) (walk_looks (l.self.steps - l.turn) (table_in l.self) (qualified_of l.at))
          ≡ with_looks (noted_in l.fn.looks) (walk_looks l.self.steps (table_in l.self) (qualified_of l.q));
    }
