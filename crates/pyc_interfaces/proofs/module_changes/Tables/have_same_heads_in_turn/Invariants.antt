use Rattle.std.proofs.Common.{◌≡◌, drop}
use Rattle.std.specs.Cmp.Lexicographic.{pointwise}
use Rattle.pyc_interfaces.specs.ClassHeads.{same_file_heads}
use Rattle.pyc_names.specs.InterfaceView.{interfaces_in}
use Rattle.pyc_names.specs.TableView.{table_in}
use Rattle.pyc_interfaces.proofs.module_changes.Tables.have_same_heads_in_turn.Given as goal

-- those that are left decide
abbrev pub invariant-loop-i : goal.invariant-loop-i
invariant-loop-i l =
    pointwise (same_file_heads (table_in l.self.old.now) (table_in l.self.new.now)) (interfaces_in (drop l.i l.files)) (interfaces_in (drop l.i l.others))
    ≡ pointwise (same_file_heads (table_in l.self.old.now) (table_in l.self.new.now)) (interfaces_in l.files) (interfaces_in l.others)
