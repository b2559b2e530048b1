use Rattle.std.proofs.Common.{◌≡◌}
use Rattle.pyc_interfaces.specs.ChangedLooks.{presence_changes}
use Rattle.pyc_names.specs.NotedLooks.{with_looks}
use Rattle.pyc_names.specs.NotedLooksView.{noted_in}
use Rattle.pyc_names.specs.TableView.{table_in}
use Rattle.pyc_interfaces.proofs.module_changes.Tables.note_presences.Given as goal

-- the modules of fewer parts are noted
abbrev pub invariant-loop-count : goal.invariant-loop-count
invariant-loop-count l =
    noted_in l.looks
    ≡ with_looks (noted_in l.fn.looks) (presence_changes (table_in l.self.old.now) (table_in l.self.new.now) l.parts l.count)
