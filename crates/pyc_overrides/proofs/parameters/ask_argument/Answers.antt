use Rattle.std.proofs.Common.{sym, append-nil}
use Rattle.pyc_overrides.proofs.Turns.{asks_same}
use Rattle.pyc_overrides.proofs.parameters.ask_argument.Goals as goal

pub returns-in-Some : goal.returns-in-Some
returns-in-Some g c = rw c.in-Some.is (asks_same _ _ _ _ _ (sym (append-nil _)) c.ask_types.ensures)
