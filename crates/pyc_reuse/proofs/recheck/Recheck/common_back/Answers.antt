use Rattle.std.proofs.Common.{◌≡◌, ◌<◌, ◌-◌, length, refl, subst, sym, arith}
use Rattle.std.proofs.lemmas.List.{length-map}
use Rattle.std.specs.declared.alloc.Global.{Global}
use Rattle.std.specs.declared.rc.Rc.{Rc}
use Rattle.pyc_reuse.proofs.InterfaceLemmas.{last_more, none_last}
use Rattle.pyc_reuse.specs.Answering.{AreAlikeLast}
use Rattle.pyc_reuse.specs.Places.{bare_of, file_at}
use Rattle.pyc_reuse.specs.RecheckView.{last_in, present_in}
use Rattle.pyc_workspace.specs.declared.file.File.{File as FileOf}
use Rattle.pyc_workspace.specs.Files.{file_in}
use Rattle.pyc_reuse.proofs.recheck.Recheck.common_back.Goals as goal

pub loop-count-init : goal.loop-count-init
loop-count-init c = none_last (last_in c.args.self.now) (present_in c.args.self.now)

pub loop-count-preserved : goal.loop-count-preserved
loop-count-preserved c =
    let self = c.args.self.now in
    let there : c.loop-count.count < length (last_in self) = omega (arith, c.loop-count-test.true, c.requires.last) in
    let here : c.loop-count.count < length (present_in self) = omega (arith, c.loop-count-test.true, c.requires.present) in
    let count = c.loop-count.count in
    let last = last_in self in
    let present = present_in self in
    let many : length present ≡ length self.present.now = length-map self.present.now (λ (f : Rc FileOf Global). file_in f.value) in
    last_more last present count there here c.loop-count.invariant
    (subst (λ n. ∥ bare_of (file_at last (n - 1 - count)) ≡ bare_of (file_at present (length present - 1 - count)) ∥₁) c.len.ensures
    (subst (λ n. ∥ bare_of (file_at last (c.len.result - 1 - count)) ≡ bare_of (file_at present (n - 1 - count)) ∥₁) (sym many) (c.if-not-has_old_interface.ensures refl)))

pub returns-clause-alike : goal.returns-clause-alike
returns-clause-alike c =
    let self = c.args.self.now in
    let all : c.loop-count.count ≡ c.args.most = omega (arith, c.loop-count-test.false, c.loop-count.auto.count-end) in
    subst (λ back. AreAlikeLast back (last_in self) (present_in self)) all c.loop-count.invariant
