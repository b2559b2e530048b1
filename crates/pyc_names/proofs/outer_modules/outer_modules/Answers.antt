use Rattle.std.proofs.Common.{ap, ◌∙◌}
use Rattle.pyc_names.specs.InterfaceView.{interface_in}
use Rattle.pyc_names.proofs.OuterLemmas.{file_more}
use Rattle.pyc_names.proofs.outer_modules.outer_modules.Goals as goal

pub loop-file-preserved : goal.loop-file-preserved
loop-file-preserved c =
    let named = c.parts.ensures ∙ (c.name.ensures ∙ ap (λ f. (interface_in f).name) c.deref.ensures) in
    λ m. file_more m c.args.files.now c.loop-file.file-index c.file-item.result _ _ _ c.loop-file-test.true c.file-item.is named (c.loop-file.invariant m) (c.in_ok-insert_prefixes.ensures m)
