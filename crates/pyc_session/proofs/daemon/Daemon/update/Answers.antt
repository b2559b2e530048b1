use Rattle.std.proofs.Common.{true, false, None, Some, sym, ◌∙◌, refl, ap}
use Rattle.pyc_session.specs.Entry as entry
use Rattle.pyc_session.proofs.Refusals.{path_is_text}
use Rattle.pyc_workspace.proofs.Texts.{IsOk-utf8}
use Rattle.pyc_session.proofs.Turns.{update_bad, update_fetched, reported_keep}
use Rattle.pyc_session.proofs.daemon.Daemon.update.Goals as goal

pub returns-then-not-is_file_path-clause-reported : goal.returns-then-not-is_file_path-clause-reported
returns-then-not-is_file_path-clause-reported g c = (
  record { wants_memory = false; fetched = None },
  refl,
  update_bad _ _ (sym c.is_file_path.ensures ∙ c.if-not-is_file_path.true),
)

pub unwrap-requires : goal.unwrap-requires
unwrap-requires g c =
    IsOk-utf8 c.args.path.now c.from_utf8.result _ _ c.from_utf8.ensures.cases (λ e h. h.0) (path_is_text _ (sym c.is_file_path.ensures ∙ c.if-not-is_file_path.false))

pub returns-in-Ok-clause-reported : goal.returns-in-Ok-clause-reported
returns-in-Ok-clause-reported g c =
    let good = sym c.is_file_path.ensures ∙ c.if-not-is_file_path.false in
    let text = (rw c.unwrap.ensures at c.from_utf8.ensures.cases).0 in
    let kept = c.keep_unless.ensures in
    let reported = reported_keep _ _ _ _ _ c.in-Ok.bytes.items c.keep_unless.result c.in-Ok.bytes.ok.0 kept.ok kept.after kept.refusal kept.same in (
      record { wants_memory = reported.0; fetched = Some (record { path = c.args.path.now; entry = entry.bytes c.in-Ok.bytes.items }) },
      rw text at c.in-Ok.ensures.step,
      update_fetched _ _ reported.0 (entry.bytes c.in-Ok.bytes.items) good ∙ rw (← c.kept_as-keep.ensures) (ap Some reported.1),
    )

pub returns-in-Err-Unreadable-clause-reported : goal.returns-in-Err-Unreadable-clause-reported
returns-in-Err-Unreadable-clause-reported g c =
    let good = sym c.is_file_path.ensures ∙ c.if-not-is_file_path.false in
    let text = (rw c.unwrap.ensures at c.from_utf8.ensures.cases).0 in (
      record { wants_memory = false; fetched = Some (record { path = c.args.path.now; entry = entry.unreadable }) },
      rw (text, c.in-Err-Unreadable.is, c.in-Err-Unreadable.field-0-is) at c.fetch.ensures.step,
      update_fetched _ _ false entry.unreadable good,
    )

pub returns-in-Err-Memory-clause-reported : goal.returns-in-Err-Memory-clause-reported
returns-in-Err-Memory-clause-reported g c =
    let good = sym c.is_file_path.ensures ∙ c.if-not-is_file_path.false in
    let text = (rw c.unwrap.ensures at c.from_utf8.ensures.cases).0 in (
      record { wants_memory = true; fetched = Some (record { path = c.args.path.now; entry = entry.no_memory }) },
      rw (text, c.in-Err-Memory.is, c.in-Err-Memory.field-0-is) at c.fetch.ensures.step,
      update_fetched _ _ true entry.no_memory good,
    )
