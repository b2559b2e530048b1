use Rattle.std.proofs.Common.{sym, ap, ◌∙◌}
use Rattle.pyc_workspace.specs.Files.{file_in}
use Rattle.pyc_workspace.specs.Workspace.{is_other_of}
use Rattle.pyc_workspace.proofs.TakenLemmas.{any_at, none_more}
use Rattle.pyc_workspace.proofs.workspace.names_module.Goals as goal

pub returns-then-is_other_of : goal.returns-then-is_other_of
returns-then-is_other_of c =
    let other = ap (λ f. is_other_of c.args.path.now (file_in f)) (sym c.deref.ensures) ∙ sym c.is_other_of.ensures ∙ c.if-is_other_of.true in
    sym (any_at c.args.files.now c.loop-file.file-index c.file-item.result c.loop-file-test.true c.file-item.is (is_other_of c.args.path.now) other)

pub loop-file-preserved : goal.loop-file-preserved
loop-file-preserved c =
    let another = ap (λ f. is_other_of c.args.path.now (file_in f)) (sym c.deref.ensures) ∙ sym c.is_other_of.ensures ∙ c.if-is_other_of.false in
    none_more c.args.files.now c.loop-file.file-index c.file-item.result c.loop-file-test.true c.file-item.is (is_other_of c.args.path.now) c.loop-file.invariant another
