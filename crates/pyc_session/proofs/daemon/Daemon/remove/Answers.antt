use Rattle.std.proofs.Common.{List, ap, ap₂, false, sym, ◌∙◌}
use Rattle.std.proofs.lemmas.Map.Text.{hash_set_updates_text}
use Rattle.pyc_reuse.specs.RecheckView.{is_touched}
use Rattle.pyc_session.proofs.TouchedFiles.{chosen, chosen-take}
use Rattle.pyc_session.specs.DaemonView.{revision_of}
use Rattle.pyc_session.specs.Session.{dropping}
use Rattle.pyc_session.specs.State.{State}
use Rattle.pyc_workspace.specs.Workspace.{File}
use Rattle.pyc_session.proofs.KeptFiles.{kept-take}
use Rattle.pyc_session.proofs.Refusals.{removed_path_is_text}
use Rattle.pyc_workspace.proofs.Texts.{IsOk-utf8}
use Rattle.pyc_session.proofs.daemon.Daemon.remove.Goals as goal

pub unwrap-requires : goal.unwrap-requires
unwrap-requires c =
    IsOk-utf8 c.args.path.now c.from_utf8.result _ _ c.from_utf8.ensures.cases (λ e h. h.0) (removed_path_is_text c.self.inside.present c.args.path.now (sym c.remove_refusal.ensures ∙ c.in_default.is))

pub invariant_of-self : goal.invariant_of-self
invariant_of-self c =
    let before = c.self.inside in
    let text = (rw c.unwrap.ensures at c.from_utf8.ensures.cases).0 in
    let touched = hash_set_updates_text c.args.path.now before.touched c.swap_remove.new.self false (rw text at c.swap_remove.ensures.updates) in
    record {
      options_are = c.self.invariant.options_are;
      kept = rw c.take.ensures.after (kept-take (revision_of before.options before.last).files before.present before.touched c.swap_remove.new.self c.args.path.now touched c.self.invariant.kept);
    }

pub returns-clause-after : goal.returns-clause-after
returns-clause-after c =
    let before = c.self.inside in
    let last = revision_of before.options before.last in
    let made : List File → List File → State = λ present touched.
    record { options = before.options; present = present; touched = touched; last = last.files; examined = last.examined } in
    let text = (rw c.unwrap.ensures at c.from_utf8.ensures.cases).0 in
    let touched = hash_set_updates_text c.args.path.now before.touched c.swap_remove.new.self false (rw text at c.swap_remove.ensures.updates) in
    let chosen_is = ap (λ (fs : List File). chosen (is_touched c.swap_remove.new.self) fs) c.take.ensures.after
    ∙ chosen-take c.args.path.now (is_touched before.touched) (is_touched c.swap_remove.new.self) touched before.present in
    ap₂ made c.take.ensures.after chosen_is ∙ ap (λ (s : State). dropping s c.args.path.now) c.self.view_is
