use Rattle.std.proofs.Common.{◌≡◌, drop, flat_map}
use Rattle.pyc_interfaces.specs.ChangedLooks.{module_changes}
use Rattle.pyc_names.specs.InterfaceView.{interfaces_in}
use Rattle.pyc_names.specs.NotedLooks.{with_looks}
use Rattle.pyc_names.specs.NotedLooksView.{noted_in}
use Rattle.pyc_names.specs.TableView.{table_in}
use Rattle.pyc_interfaces.proofs.module_changes.Tables.note_files.Given as goal

-- what is noted, with what differs in the modules of the files that are left, is the whole
abbrev pub invariant-loop-file : goal.invariant-loop-file
invariant-loop-file l =
    with_looks (noted_in l.looks) (flat_map (λ file. module_changes (table_in l.self.old.now) (table_in l.self.new.now) file.name) (interfaces_in (drop l.file-index l.files)))
    ≡ with_looks (noted_in l.fn.looks) (flat_map (λ file. module_changes (table_in l.self.old.now) (table_in l.self.new.now) file.name) (interfaces_in l.files))
