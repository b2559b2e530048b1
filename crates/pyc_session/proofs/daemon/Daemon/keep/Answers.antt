use Rattle.std.proofs.Common.{true}
use Rattle.pyc_session.proofs.Refusals.{kept_path_is_text}
use Rattle.pyc_session.proofs.Turns.{late_memory}
use Rattle.pyc_workspace.proofs.Texts.{IsOk-utf8}
use Rattle.pyc_session.proofs.daemon.Daemon.keep.Goals as goal

pub unwrap-path-requires : goal.unwrap-path-requires
unwrap-path-requires c =
    IsOk-utf8 c.args.path.now c.from_utf8.result _ _ c.from_utf8.ensures.cases (λ e h. h.0) (kept_path_is_text _ _ _ _ c.requires)

pub returns-in_default-clause-refusal : goal.returns-in_default-clause-refusal
returns-in_default-clause-refusal c = (true, late_memory _ _ _ _)

pub returns-in-Err-clause-refusal : goal.returns-in-Err-clause-refusal
returns-in-Err-clause-refusal c = (true, late_memory _ _ _ _)
