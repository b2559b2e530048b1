use Rattle.std.proofs.Common.{sym, ◌∙◌}
use Rattle.pyc_session.proofs.Turns.{reported_late}
use Rattle.pyc_session.proofs.daemon.Daemon.keep_unless.Goals as goal

pub returns-clause-refusal : goal.returns-clause-refusal
returns-clause-refusal c = reported_late _ _ _ _ c.keep.result (rw c.len.ensures at (sym c.early_refusal.ensures ∙ c.in_default.is)) c.keep.ensures.refusal
