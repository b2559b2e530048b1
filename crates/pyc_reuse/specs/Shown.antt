-- Which messages of a file no ignore comment suppresses.
use Rattle.std.specs.Prelude.{Bool, true, not, if◌then◌else◌, List, [], ◌∷◌}
use Rattle.pyc_ast.specs.Modules.{Outcome, tree, fault}
use Rattle.pyc_report.specs.Message.{Message}
use Rattle.pyc_report.specs.Suppressing.{is_suppressed}

-- whether no ignore comment suppresses a message; a file with a fault has none
abbrev pub is_shown : Outcome → Message → Bool
is_shown (tree m) message = not (is_suppressed m message)
is_shown (fault line text) message = true

-- the messages whose flags are set; one without a flag is none of them
abbrev pub flagged : List Message → List Bool → List Message
flagged (message ∷ messages) (flag ∷ flags) = if flag then message ∷ flagged messages flags else flagged messages flags
flagged _ _ = []
