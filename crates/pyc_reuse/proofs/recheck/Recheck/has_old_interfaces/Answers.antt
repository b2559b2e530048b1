use Rattle.std.proofs.Common.{◌<◌, length, refl, arith}
use Rattle.std.proofs.lemmas.List.{length-map}
use Rattle.std.specs.declared.alloc.Global.{Global}
use Rattle.std.specs.declared.rc.Rc.{Rc}
use Rattle.pyc_reuse.proofs.InterfaceLemmas.{bare_more}
use Rattle.pyc_reuse.specs.RecheckView.{last_in, present_in}
use Rattle.pyc_workspace.specs.declared.file.File.{File as FileOf}
use Rattle.pyc_workspace.specs.Files.{file_in}
use Rattle.pyc_reuse.proofs.recheck.Recheck.has_old_interfaces.Goals as goal

pub loop-index-preserved : goal.loop-index-preserved
loop-index-preserved c =
    let self = c.args.self.now in
    let many = length-map self.present.now (λ (f : Rc FileOf Global). file_in f.value) in
    let here : c.loop-index.index < length (present_in self) = omega (arith, many, c.loop-index-test.true) in
    let there : c.loop-index.index < length (last_in self) = omega (arith, c.loop-index-test.true, c.if-self-len.false, c.len.ensures) in
    bare_more (last_in self) (present_in self) c.loop-index.index there here c.loop-index.invariant (c.if-not-has_old_interface.ensures refl)
