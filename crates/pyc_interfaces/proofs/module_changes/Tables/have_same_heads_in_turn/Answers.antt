use Rattle.std.proofs.Common.{sym, arith}
use Rattle.pyc_interfaces.proofs.SameRows.{other_rows}
use Rattle.pyc_interfaces.specs.ClassHeads.{same_file_heads}
use Rattle.pyc_names.specs.InterfaceView.{interface_in}
use Rattle.pyc_names.specs.TableView.{table_in}
use Rattle.pyc_interfaces.proofs.module_changes.Tables.have_same_heads_in_turn.Goals as goal

pub returns-then-files-others : goal.returns-then-files-others
returns-then-files-others c =
    sym (other_rows (same_file_heads (table_in c.args.self.now.old.now) (table_in c.args.self.now.new.now)) (λ file. interface_in file.value) c.args.files.now c.args.others.now (λ same. absurd (omega (arith, same))))
