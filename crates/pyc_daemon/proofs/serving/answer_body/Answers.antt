use Rattle.std.proofs.Common.{true, false, sym, ◌∙◌}
use Rattle.pyc_session.proofs.Turns.{file_done, file_late, file_not_kept}
use Rattle.pyc_daemon.proofs.Ended.{file_broken}
use Rattle.pyc_daemon.proofs.serving.answer_body.Goals as goal

pub returns-in-Ok : goal.returns-in-Ok
returns-in-Ok c = (
  false,
  λ held wanted ended rest came last.
      let whole = rw c.in-Whole.is at c.requires.whole in
      let all = rw c.in-Whole.is at came in
      rw (c.line.ensures.reply, c.line.ensures.end)
      (file_done _ _ _ _ _ held rest all.1 (sym c.requires.refusal ∙ whole.0) (rw whole.1 at c.in-Ok.ensures.ok) (rw all.0 at c.in-Ok.ensures.after)),
)

pub returns-in-Err : goal.returns-in-Err
returns-in-Err c =
    let late = c.in-Err.ensures.refusal in (
      late.0,
      λ held wanted ended rest came last.
          let whole = rw c.in-Whole.is at c.requires.whole in
          let all = rw c.in-Whole.is at came in
          rw (c.line-in-Err.ensures.reply, c.line-in-Err.ensures.end, c.text.ensures)
          (file_late _ _ _ _ _ late.0 _ held rest all.1 (sym c.requires.refusal ∙ whole.0) (rw whole.1 at late.1) c.in-Err.ensures.same),
    )

pub returns-in-NotKept : goal.returns-in-NotKept
returns-in-NotKept c = (
  true,
  λ held wanted ended rest came last.
      rw (c.line-in-NotKept.ensures.reply, c.line-in-NotKept.ensures.end, c.text-in-NotKept.ensures, c.unwrap_or.ensures)
      (file_not_kept _ _ _ _ _ held rest (rw c.in-NotKept.is at came) c.requires.refusal),
)

pub returns-in-Truncated : goal.returns-in-Truncated
returns-in-Truncated c = (
  true,
  λ held wanted ended rest came last.
      let short = rw c.in-Truncated.is at came in
      rw (c.last.ensures.reply, c.last.ensures.end, c.text-in-Truncated.ensures)
      (file_broken _ _ _ _ true ended held rest short.0 short.1 last),
)
