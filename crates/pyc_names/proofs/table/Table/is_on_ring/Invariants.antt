use Rattle.std.proofs.Common.{◌≡◌, ◌+◌, ◌-◌}
use Rattle.pyc_names.specs.Following.{leads_to}
use Rattle.pyc_names.specs.FollowingView.{qualified_of}
use Rattle.pyc_names.specs.Looks.{ring_looks}
use Rattle.pyc_names.specs.NotedLooks.{with_looks}
use Rattle.pyc_names.specs.NotedLooksView.{noted_in}
use Rattle.pyc_names.specs.TableView.{table_in}
use Rattle.pyc_names.proofs.table.Table.is_on_ring.Given as goal

-- what is left of the steps leads back where the whole does, and what is noted, with what they look at, is the whole
abbrev pub invariant-loop-turn : goal.invariant-loop-turn
invariant-loop-turn l =
    record {
      rest : leads_to (l.self.steps - l.turn) (table_in l.self) (qualified_of l.q) (qualified_of l.at)
          ≡ leads_to (l.self.steps - 1) (table_in l.self) (qualified_of l.q) (qualified_of l.q);
      noted : with_looks (noted_in l.looks) (ring_looks ((l.self.steps - l.turn) + 1) (table_in l.self) (qualified_of l.q) (qualified_of l.at))
          ≡ with_looks (noted_in l.fn.looks) (ring_looks l.self.steps (table_in l.self) (qualified_of l.q) (qualified_of l.q));
    }
