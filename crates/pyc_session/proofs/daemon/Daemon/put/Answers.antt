use Rattle.std.proofs.Common.{List, ap, ap₂, subst, sym, ◌∙◌}
use Rattle.pyc_session.specs.DaemonView.{revision_of, touched_in}
use Rattle.pyc_session.proofs.KeptFiles.{kept-put, touched-put}
use Rattle.pyc_workspace.specs.Files.{file_in}
use Rattle.pyc_reuse.specs.RecheckView.{is_touched}
use Rattle.pyc_session.proofs.TouchedFiles.{chosen, chosen-put}
use Rattle.pyc_session.specs.Session.{keeping}
use Rattle.pyc_session.specs.State.{State}
use Rattle.pyc_workspace.specs.Workspace.{File, IsInOrder}
use Rattle.pyc_session.proofs.daemon.Daemon.put.Goals as goal

pub invariant_of-self-2 : goal.invariant_of-self-2
invariant_of-self-2 c =
    let before = c.self.inside in
    let file = file_in c.in_ok-file.file in
    let path = ap (λ (file : File). file.path) c.in_ok-file.ensures in
    let touched = touched-put before.touched c.reserve.new.self c.insert.new.self file.path c.in_ok-touched.touched (c.in_ok-touched.ensures.ok ∙ sym path) c.reserve.ensures.keys c.in_ok-insert.ensures.updates in
    record {
      options_are = c.self.invariant.options_are;
      kept = rw c.in_ok-put.ensures.after (kept-put (revision_of before.options before.last).files before.present before.touched c.insert.new.self file touched c.self.invariant.kept);
    }

pub returns-clause-after : goal.returns-clause-after
returns-clause-after c =
    let before = c.self.inside in
    let last = revision_of before.options before.last in
    let made : List File → List File → State = λ present touched.
    record { options = before.options; present = present; touched = touched; last = last.files; examined = last.examined } in
    let file = file_in c.in_ok-file.file in
    let path = ap (λ (file : File). file.path) c.in_ok-file.ensures in
    let touched = touched-put before.touched c.reserve.new.self c.insert.new.self file.path c.in_ok-touched.touched (c.in_ok-touched.ensures.ok ∙ sym path) c.reserve.ensures.keys c.in_ok-insert.ensures.updates in
    let put = c.in_ok-put.ensures.after in
    let chosen_is = ap (λ (fs : List File). chosen (is_touched c.insert.new.self) fs) put
    ∙ chosen-put file (is_touched before.touched) (is_touched c.insert.new.self) touched before.present (subst (λ (fs : List File). IsInOrder fs) put c.put.ensures.ordered) in
    ap₂ made put chosen_is ∙ ap (λ (f : File). keeping (made before.present (touched_in before.present before.touched)) f) c.in_ok-file.ensures
    ∙ ap (λ (s : State). keeping s (record { path = c.args.path.now; bytes = c.args.bytes.items })) c.self.view_is
