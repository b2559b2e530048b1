-- What the order of messages goes by, as plain values.
use Rattle.std.specs.Prelude.{ℕ, List}
use Rattle.pyc_report.specs.declared.ordering.SortKey.{SortKey as PlaceOf}
use Rattle.pyc_report.specs.Message.{Message, code_of}

-- a line, a column, a code and a text
pub record SortKey : Type 0 where
  pub line : ℕ
  pub column : ℕ
  pub code : List ℕ
  pub text : List ℕ

-- the place of a message
abbrev pub place_of : Message → SortKey
place_of message =
    record { line = message.line; column = message.column; code = code_of message.kind; text = message.text }

-- a place as plain values
abbrev pub place_in : PlaceOf → SortKey
place_in place = record { line = place.line; column = place.column; code = place.code.now; text = place.text.now }
