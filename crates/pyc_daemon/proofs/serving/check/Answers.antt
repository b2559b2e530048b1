use Rattle.std.proofs.Common.{true, false}
use Rattle.pyc_session.proofs.Turns.{check_done, check_refused}
use Rattle.pyc_daemon.proofs.serving.check.Goals as goal

pub returns-in-Ok : goal.returns-in-Ok
returns-in-Ok c = (false, λ rest. check_done _ _ _ rest c.in-Ok.ensures.fresh c.in-Ok.ensures.after)

pub returns-in-Err : goal.returns-in-Err
returns-in-Err c = (true, λ rest. rw (c.line.ensures.reply, c.line.ensures.end, c.text.ensures) (check_refused _ _ rest c.in-Err.ensures.same))
