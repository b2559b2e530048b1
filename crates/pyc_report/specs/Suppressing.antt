-- Which messages the ignore comments of a file suppress (mypy documentation, "Error codes", "Silencing errors based on
-- error codes").
use Rattle.std.specs.Prelude.{ℕ, Bool, true, false, not, ◌&&◌, ◌||◌, ◌==◌, List, filter, bytes_eq}
use Rattle.std.specs.List.{list_any}
use Rattle.pyc_ast.specs.Modules.{Codes, all, listed, Ignore, Module}
use Rattle.pyc_report.specs.declared.message.Code.TheVariants.{Syntax}
use Rattle.pyc_report.specs.declared.message.MessageKind.{MessageKind}
use Rattle.pyc_report.specs.declared.message.MessageKind.TheVariants.{Error, FailedObligation, Note}
use Rattle.pyc_report.specs.Message.{Message, code_of}

-- whether a comment with these codes is one on this code
abbrev pub covers : List ℕ → Codes → Bool
covers code all = true
covers code (listed texts) = list_any (bytes_eq code) texts

-- whether an ignore comment stands on the line of a message, and is one on its code
abbrev pub ignores : Message → Ignore → Bool
ignores message ignore = ignore.line == message.line && covers (code_of message.kind) ignore.codes

-- whether a message of this kind can be suppressed: an error can, but not one with the code `syntax`, and no note can
abbrev pub is_suppressible : MessageKind → Bool
is_suppressible (Error Syntax) = false
is_suppressible (Error _) = true
is_suppressible (FailedObligation _) = true
is_suppressible Note = false

-- whether a message is suppressed: by an ignore of the whole file, or by a comment on its line
unfoldable pub is_suppressed : Module → Message → Bool
is_suppressed m message = is_suppressible message.kind && (m.whole_file || list_any (ignores message) m.ignores)

-- the messages that are not suppressed
abbrev pub without_suppressed : Module → List Message → List Message
without_suppressed m messages = filter (λ message. not (is_suppressed m message)) messages
