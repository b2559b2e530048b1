use Rattle.std.proofs.Common.{List, [], ap, sym, ◌∙◌, subst}
use Rattle.pyc_reuse.specs.RecheckView.{AreKept, is_touched}
use Rattle.pyc_session.specs.DaemonView.{revision_of}
use Rattle.pyc_session.specs.State.{State}
use Rattle.pyc_session.proofs.KeptFiles.{kept-check}
use Rattle.pyc_session.proofs.TouchedFiles.{none_chosen, untouched}
use Rattle.pyc_workspace.specs.Workspace.{File, taken}
use Rattle.pyc_session.proofs.daemon.Daemon.check.Goals as goal

pub invariant_of-self : goal.invariant_of-self
invariant_of-self c =
    let inside = c.self.inside in
    let now = c.self.view_is ∙ c.in_ok-report.ensures.after in
    let checked = ap (λ (s : State). s.last) now ∙ ap taken (sym (ap (λ (s : State). s.present) now)) in
    record {
      options_are = c.self.invariant.options_are;
      kept = subst (λ files. AreKept files inside.present c.clear.new.self) (sym checked) (kept-check inside.present c.clear.new.self);
    }

pub returns-clause-after : goal.returns-clause-after
returns-clause-after c =
    let inside = c.self.inside in
    let last = revision_of inside.options inside.last in
    let made : List File → State = λ touched.
    record { options = inside.options; present = inside.present; touched = touched; last = last.files; examined = last.examined } in
    let settled : State → State = λ s. record s { touched = [] } in
    ap made (none_chosen inside.present (is_touched c.clear.new.self) (untouched c.clear.new.self c.clear.ensures.empty))
    ∙ ap settled (c.self.view_is ∙ c.in_ok-report.ensures.after)
