use Rattle.std.proofs.Common.{not, sym, ap, ◌∙◌}
use Rattle.indexmap.specs.IndexSet.{contains_text}
use Rattle.pyc_workspace.specs.Files.{file_in}
use Rattle.pyc_workspace.specs.Workspace.{File}
use Rattle.pyc_workspace.proofs.TakenLemmas.{pushed_more, passed_over}
use Rattle.pyc_workspace.proofs.files.without.Goals as goal
use Rattle.pyc_workspace.proofs.files.without.Goals.{then-not-contains+in_ok-clone+in_ok-push, else-not-contains}

pub loop-file-preserved : goal.loop-file-preserved
loop-file-preserved c =
    let asked = ap (contains_text c.args.paths.now) (sym (c.path.ensures ∙ ap (λ f. (file_in f).path) c.deref.ensures)) ∙ sym c.contains.ensures in
    elim c.if-not-contains.branch [
      | then-not-contains+in_ok-clone+in_ok-push w ↦
          rw w.kept-is
          (pushed_more c.args.files.now c.loop-file.file-index c.file-item.result c.loop-file-test.true c.file-item.is (λ (file : File). not (contains_text c.args.paths.now file.path))
          c.loop-file.kept.items w.push.new.self.items w.in_ok-clone.field-0 w.in_ok-push.ensures.items w.in_ok-clone.ensures.cases (ap not (asked ∙ w.if-not-contains.true)) c.loop-file.invariant)
      | else-not-contains w ↦
          rw w.kept-is
          (passed_over c.args.files.now c.loop-file.file-index c.file-item.result c.loop-file-test.true c.file-item.is (λ (file : File). not (contains_text c.args.paths.now file.path))
          c.loop-file.kept.items (ap not (asked ∙ w.if-not-contains.false)) c.loop-file.invariant)
    ]
