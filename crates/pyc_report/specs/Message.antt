-- What a contract sees of a message: plain values.
use Rattle.std.specs.Prelude.{ℕ, List, [], codes, string_bytes, Option, Some, None}
use Rattle.pyc_ast.specs.declared.position.Position.{Position}
use Rattle.pyc_report.specs.declared.message.Code.{Code}
use Rattle.pyc_report.specs.declared.message.Code.TheVariants as code
use Rattle.pyc_report.specs.declared.message.ObligationKind.{ObligationKind}
use Rattle.pyc_report.specs.declared.message.ObligationKind.TheVariants as duty
use Rattle.pyc_report.specs.declared.message.MessageKind.{MessageKind}
use Rattle.pyc_report.specs.declared.message.MessageKind.TheVariants.{Error, FailedObligation, Note}
use Rattle.pyc_report.specs.declared.message.Message.{Message as Declared}

-- an error or a note: its line and its column, each counted from 1, its kind and its text
pub record Message : Type 0 where
  pub line : ℕ
  pub column : ℕ
  pub kind : MessageKind
  pub text : List ℕ

-- a code as it is printed
abbrev pub code_name : Code → List ℕ
code_name code.AttrDefined = codes "attr-defined"
code_name code.CallArg = codes "call-arg"
code_name code.ImportNotFound = codes "import-not-found"
code_name code.Index = codes "index"
code_name code.Misc = codes "misc"
code_name code.NameDefined = codes "name-defined"
code_name code.NoRedef = codes "no-redef"
code_name code.Operator = codes "operator"
code_name code.Syntax = codes "syntax"
code_name code.UnionAttr = codes "union-attr"
code_name code.ValidType = codes "valid-type"

-- the code of an obligation of this kind that does not hold, as it is printed
abbrev pub obligation_code : ObligationKind → List ℕ
obligation_code duty.Argument = codes "arg-type"
obligation_code duty.Assignment = codes "assignment"
obligation_code duty.Default = codes "assignment"
obligation_code duty.DictEntry = codes "dict-item"
obligation_code duty.Index = codes "index"
obligation_code duty.ListItem = codes "list-item"
obligation_code duty.MissingReturn = codes "return"
obligation_code duty.Override = codes "override"
obligation_code duty.Return = codes "return-value"
obligation_code duty.VariableOverride = codes "assignment"

-- the code of a message of this kind as it is printed: none for a note
abbrev pub code_of : MessageKind → List ℕ
code_of (Error found) = code_name found
code_of (FailedObligation found) = obligation_code found
code_of Note = []

-- the message as plain values
abbrev pub message_in : Declared → Message
message_in message =
    record { line = message.line; column = message.column; kind = message.kind; text = string_bytes message.text }

-- what a rule reports by itself, an error with its code or a note: what obligations report is no diagnostic
pub record Diagnostic : Type 0 where
  pub line : ℕ
  pub column : ℕ
  pub code : Option Code
  pub text : List ℕ

-- the kind of the message of a diagnostic
abbrev pub kind_of_diagnostic : Option Code → MessageKind
kind_of_diagnostic (Some found) = Error found
kind_of_diagnostic None = Note

-- the message of a diagnostic
abbrev pub diagnostic_message : Diagnostic → Message
diagnostic_message diagnostic =
    record {
      line = diagnostic.line;
      column = diagnostic.column;
      kind = kind_of_diagnostic diagnostic.code;
      text = diagnostic.text;
    }

-- an error at a position
abbrev pub error_at : Position → Code → List ℕ → Diagnostic
error_at at found text = record { line = at.line; column = at.column; code = Some found; text = text }

-- an error on a line as a whole
abbrev pub error_on_line : ℕ → Code → List ℕ → Diagnostic
error_on_line line found text = record { line = line; column = 1; code = Some found; text = text }

-- a note at a position
abbrev pub note_at : Position → List ℕ → Diagnostic
note_at at text = record { line = at.line; column = at.column; code = None; text = text }

-- the message of an obligation of a kind that does not hold, at a position
abbrev pub failing_at : Position → ObligationKind → List ℕ → Message
failing_at at found text = record { line = at.line; column = at.column; kind = FailedObligation found; text = text }
