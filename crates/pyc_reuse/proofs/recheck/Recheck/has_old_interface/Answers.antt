use Rattle.std.proofs.Common.{◌≡◌, ap, refl, subst, sym, ◌∙◌}
use Rattle.std.specs.declared.alloc.Global.{Global}
use Rattle.std.specs.declared.rc.Rc.{Rc}
use Rattle.pyc_names.specs.declared.source_file.SourceFile.{SourceFile as SourceFileOf}
use Rattle.pyc_names.specs.SourceFileView.{source_in}
use Rattle.pyc_reuse.proofs.InterfaceLemmas.{bare_alike, file_is}
use Rattle.pyc_reuse.proofs.PlaceLemmas.{stands}
use Rattle.pyc_reuse.specs.Places.{bare_of, file_at}
use Rattle.pyc_reuse.specs.RecheckView.{last_in, present_in}
use Rattle.pyc_workspace.specs.declared.file.File.{File as FileOf}
use Rattle.pyc_workspace.specs.Fresh.{source_of}
use Rattle.pyc_workspace.specs.Workspace.{File}
use Rattle.pyc_reuse.proofs.recheck.Recheck.has_old_interface.Goals as goal

pub returns-in-Some : goal.returns-in-Some
returns-in-Some c =
    let self = c.args.self.now in
    let there = stands (last_in self) (file_at (present_in self) c.args.index) c.in-Some.place (sym c.requires.place ∙ c.in-Some.is) in
    λ is. ∣ ap bare_of (ap (file_at (last_in self)) (sym c.if-place-old.true) ∙ there.there) ∣₁

pub returns-in_default : goal.returns-in_default
returns-in_default c =
    let self = c.args.self.now in
    let last = file_is c.files.result.now c.args.old c.index-files-old.result c.deref.result.now (last_in self) c.requires.last c.files.ensures.all c.index-files-old.is c.deref.ensures in
    let here = file_is self.present.now c.args.index c.index-self-index.result c.deref-in_default-2.result.now (present_in self) c.requires.present refl c.index-self-index.is (c.deref-in_default-2.ensures ∙ ap (λ (r : Rc FileOf Global). r.value) (sym c.index-self-index.is)) in
    let first = subst (λ (f : File). ∥ source_in c.source.result.now.value ≡ source_of f ∥₁) last c.source.ensures in
    let second = subst (λ (f : File). ∥ source_in c.source-in_default.result.now.value ≡ source_of f ∥₁) here c.source-in_default.ensures in
    let old = subst (λ (s : SourceFileOf). ∥ source_in s ≡ source_of (file_at (last_in self) c.args.old) ∥₁) (sym c.deref-in_default.ensures) first in
    let new = subst (λ (s : SourceFileOf). ∥ source_in s ≡ source_of (file_at (present_in self) c.args.index) ∥₁) (sym c.deref-in_default-3.ensures) second in
    λ is. bare_alike c.interface.result.now c.interface-in_default.result.now c.deref-in_default.result.now c.deref-in_default-3.result.now (file_at (last_in self) c.args.old)
    (file_at (present_in self) c.args.index) c.interface.ensures c.interface-in_default.ensures old new (c.same_interface.ensures.alike is)
