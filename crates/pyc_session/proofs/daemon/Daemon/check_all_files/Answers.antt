use Rattle.std.proofs.Common.{Option, ap, ◌∙◌}
use Rattle.pyc_reuse.specs.declared.last_check.LastCheck.{LastCheck}
use Rattle.pyc_reuse.specs.Revision.{Revision}
use Rattle.pyc_reuse.specs.RevisionView.{revision_in}
use Rattle.pyc_session.proofs.KeptFiles.{keeps_after, kept-last, kept-taken}
use Rattle.pyc_session.specs.DaemonView.{revision_of}
use Rattle.pyc_session.proofs.daemon.Daemon.check_all_files.Goals as goal

pub check_again-next-requires : goal.check_again-next-requires
check_again-next-requires c =
    let inside = c.self.inside in
    let last = revision_in c.in_ok-last.last in
    let revision = c.in_ok-last.ensures.revision ∙ ap (λ (last : Option LastCheck). revision_of inside.options last) c.take.ensures.value in
    let kept = kept-last (revision_of inside.options inside.last) last inside.present inside.touched revision c.self.invariant.kept in
    kept-taken last.files inside.present c.in_ok-taken.taken inside.touched c.in_ok-taken.ensures.taken kept

pub invariant_of-self-2 : goal.invariant_of-self-2
invariant_of-self-2 c =
    let inside = c.self.inside in
    let last = revision_in c.in_ok-last.last in
    let revision = c.in_ok-last.ensures.revision ∙ ap (λ (last : Option LastCheck). revision_of inside.options last) c.take.ensures.value in
    let kept = kept-last (revision_of inside.options inside.last) last inside.present inside.touched revision c.self.invariant.kept in
    let next = c.check_again-next in
    keeps_after inside.options inside.present c.in_ok-taken.taken inside.touched last next.result.0 next.result.1
    (ap (λ (p : Revision). p.options) revision ∙ c.self.invariant.options_are) c.in_ok-taken.ensures.taken kept next.ensures.last next.ensures.same
