use Rattle.pyc_interfaces.proofs.BetweenLemmas.{modules_noted}
use Rattle.pyc_names.specs.TableView.{table_in}
use Rattle.pyc_interfaces.proofs.module_changes.Tables.note_changes.Goals as goal

pub returns : goal.returns
returns c =
    modules_noted c.args.common.front c.args.common.back (table_in c.args.self.now.old.now) (table_in c.args.self.now.new.now) _ _ _ _ _ _ _
    c.files.ensures c.between.ensures c.files-2.ensures c.between-2.ensures c.in_ok-note_files.ensures c.in_ok-note_files-2.ensures
