use Rattle.std.proofs.Common.{sym}
use Rattle.pyc_names.proofs.NotedLemmas.{with_none}
use Rattle.pyc_names.specs.TableView.{table_in}
use Rattle.pyc_interfaces.proofs.NotedSteps.{presence_noted}
use Rattle.pyc_interfaces.proofs.module_changes.Tables.note_presences.Goals as goal

pub loop-count-init : goal.loop-count-init
loop-count-init c = sym (with_none _)

pub loop-count-preserved : goal.loop-count-preserved
loop-count-preserved c =
    presence_noted (table_in c.args.self.now.old.now) (table_in c.args.self.now.new.now) _ _ _ c.args.parts.now c.loop-count.count c.loop-count.invariant c.in_ok-note_presence.ensures
