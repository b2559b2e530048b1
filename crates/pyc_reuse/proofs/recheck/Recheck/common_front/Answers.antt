use Rattle.std.proofs.Common.{◌≡◌, ◌<◌, length, refl, subst, arith}
use Rattle.pyc_reuse.proofs.InterfaceLemmas.{bare_more}
use Rattle.pyc_reuse.specs.Answering.{AreAlikeFirst}
use Rattle.pyc_reuse.specs.RecheckView.{last_in, present_in}
use Rattle.pyc_reuse.proofs.recheck.Recheck.common_front.Goals as goal

pub loop-index-preserved : goal.loop-index-preserved
loop-index-preserved c =
    let self = c.args.self.now in
    let there : c.loop-index.index < length (last_in self) = omega (arith, c.loop-index-test.true, c.requires.last) in
    let here : c.loop-index.index < length (present_in self) = omega (arith, c.loop-index-test.true, c.requires.present) in
    bare_more (last_in self) (present_in self) c.loop-index.index there here c.loop-index.invariant (c.if-not-has_old_interface.ensures refl)

pub returns-clause-alike : goal.returns-clause-alike
returns-clause-alike c =
    let self = c.args.self.now in
    let all : c.loop-index.index ≡ c.args.most = omega (arith, c.loop-index-test.false, c.loop-index.auto.index-end) in
    subst (λ front. AreAlikeFirst front (last_in self) (present_in self)) all c.loop-index.invariant
