-- A command whose bytes end with the input, and the reply to `status`.
use Rattle.std.proofs.Common.{◌≡◌, ℕ, ◌<◌, Bool, List, [], ◌++◌, length, IsTrue, refl}
use Rattle.pyc_workspace.specs.Fresh.{units_of}
use Rattle.pyc_session.specs.declared.ending.End.TheVariants.{Broken}
use Rattle.pyc_session.specs.declared.keep.Keep.{Keep}
use Rattle.pyc_session.specs.declared.refusal.Refusal.TheVariants as refusal
use Rattle.pyc_session.specs.declared.status.Status.{Status}
use Rattle.pyc_session.specs.Refusal.{refusal_text}
use Rattle.pyc_session.specs.Session.{file_turn, last_turn, status_reply}
use Rattle.pyc_session.specs.State.{State}
use Rattle.pyc_session.proofs.Turns.{file_short}
use Rattle.pyc_daemon.specs.Replies.{status_text}
use Rattle.pyc_daemon.specs.Runs.{IsLast}
use Rattle.pyc_daemon.proofs.Moving.{append_nil}

-- the bytes that came are not all, and nothing comes after them
pub file_broken : (how : Keep) (s : State) (path : List ℕ) (size : ℕ) (wanting ended : Bool) (held rest : List ℕ) → length held < size → IsTrue ended → IsLast ended rest
    → file_turn how s path size wanting (held ++ rest) ≡ last_turn (refusal_text refusal.Truncated) s Broken
file_broken how s path size wanting ended held rest few reported last =
    let none : rest ≡ [] = last reported in
    file_short how s path size wanting (held ++ rest) (rw (none, append_nil held) few)

-- the reply to `status`
pub status_reported : (s : State) (counts : Status) → counts.files ≡ length s.last → counts.bodies ≡ length (units_of s.last) → counts.rechecked ≡ length s.examined
    → status_text counts ≡ status_reply s
unfolding status_reply
status_reported s counts files bodies rechecked = rw (files, bodies, rechecked) refl
