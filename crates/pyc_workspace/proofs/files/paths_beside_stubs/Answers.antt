use Rattle.std.proofs.Common.{sym, ap, ◌∙◌}
use Rattle.indexmap.specs.IndexSet.{contains_text}
use Rattle.pyc_names.specs.ModuleName.{beside, is_stub_path}
use Rattle.pyc_workspace.specs.Files.{file_in}
use Rattle.pyc_workspace.proofs.TakenLemmas.{stub_more, no_stub_more}
use Rattle.pyc_workspace.proofs.files.paths_beside_stubs.Goals as goal
use Rattle.pyc_workspace.proofs.files.paths_beside_stubs.Goals.{then-is_stub_path+in_ok-from_str+in_ok-insert, else-is_stub_path}

pub loop-file-preserved : goal.loop-file-preserved
loop-file-preserved c =
    let asked = ap (λ f. is_stub_path (file_in f).path) (sym c.deref.ensures) ∙ ap is_stub_path (sym c.path.ensures) ∙ sym c.is_stub_path.ensures in
    λ path. elim c.if-is_stub_path.branch [
      | then-is_stub_path+in_ok-from_str+in_ok-insert w ↦
          let written = w.in_ok-from_str.ensures.ok ∙ w.beside.ensures ∙ ap beside (w.path-then-is_stub_path.ensures ∙ ap (λ f. (file_in f).path) w.deref-then-is_stub_path.ensures) in
          rw w.found-is
          (stub_more path c.args.files.now c.loop-file.file-index c.file-item.result c.loop-file-test.true c.file-item.is c.loop-file.found w.insert.new.self w.in_ok-from_str.field-0 written
          (asked ∙ w.if-is_stub_path.true) w.in_ok-insert.ensures.updates (c.loop-file.invariant path))
      | else-is_stub_path w ↦
          rw w.found-is
          (no_stub_more path c.args.files.now c.loop-file.file-index c.file-item.result c.loop-file-test.true c.file-item.is (contains_text c.loop-file.found path)
          (asked ∙ w.if-is_stub_path.false) (c.loop-file.invariant path))
    ]
