use Rattle.std.proofs.Common.{◌≡◌, ap, List, refl, subst, sym, ◌∙◌}
use Rattle.std.proofs.Math.Logic.{∥∥₁_elim}
use Rattle.pyc_iface.specs.CarryLaws.{AnswersStay}
use Rattle.pyc_iface.specs.Flags.{is_flagged}
use Rattle.pyc_iface.specs.PlainWorldView.{world_in}
use Rattle.pyc_names.specs.InterfaceView.{interfaces_in}
use Rattle.pyc_names.specs.Interfaces.{Interface}
use Rattle.pyc_reuse.proofs.InterfaceLemmas.{as_files, in_common}
use Rattle.pyc_reuse.specs.Answering.{StandFor}
use Rattle.pyc_reuse.specs.RecheckView.{last_in, present_in}
use Rattle.pyc_reuse.proofs.recheck.Recheck.next_world.Goals as goal

pub returns-then-has_old_interfaces-clause-alike : goal.returns-then-has_old_interfaces-clause-alike
returns-then-has_old_interfaces-clause-alike c =
    c.if-has_old_interfaces.ensures refl

pub revised_world-requires : goal.revised_world-requires
revised_world-requires c =
    let self = c.args.self.now in
    let old = ap world_in c.deref.ensures ∙ c.world.ensures ∙ c.answers.ensures.world in
    in_common (world_in c.deref.result.now) (interfaces_in c.deref-2.result.now) (last_in self) (present_in self) c.common.result.front c.common.result.back
    (subst (λ (w : List Interface). StandFor w (last_in self)) (sym old) c.requires.last)
    (as_files (interfaces_in c.deref-2.result.now) (present_in self) (∥∥₁_elim c.in_ok-interfaces.ensures squash₁ (λ e. ∣ ap interfaces_in c.deref-2.ensures.value ∙ e ∣₁)))
    c.common.ensures.fit_last c.common.ensures.fit_present c.common.ensures.first c.common.ensures.last

pub returns-clause-answers : goal.returns-clause-answers
returns-clause-answers c =
    as_files (world_in c.in_ok-revised.revised.world.value) (present_in c.args.self.now)
    (∥∥₁_elim c.in_ok-interfaces.ensures squash₁ (λ e. ∣ c.in_ok-revised.ensures.world ∙ ap interfaces_in c.deref-2.ensures.value ∙ e ∣₁))

pub returns-clause-stay : goal.returns-clause-stay
returns-clause-stay c =
    subst (λ (old : List Interface). ∥ AnswersStay (is_flagged c.in_ok-revised.revised.flags) old (world_in c.in_ok-revised.revised.world.value) ∥₁)
    (ap world_in c.deref.ensures ∙ c.world.ensures ∙ c.answers.ensures.world) c.in_ok-revised.ensures.stay
