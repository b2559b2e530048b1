-- What is reported of a reading is its diagnostics, and of each row that it requires the first obligation whose type is
-- not assignable by the written rules.
use Rattle.std.specs.Prelude.{◌≡◌, List, [], ◌∷◌, ◌++◌}
use Rattle.pyc_reading.specs.Answers.{Answer}
use Rattle.pyc_reading.specs.Keys.{Key}
use Rattle.pyc_reading.specs.Owing.{Obligation, orders_by, message_by}
use Rattle.pyc_reading.specs.Readings.{Reading, Done, Ask, Report, Require, reported, obligations}
use Rattle.pyc_report.specs.Message.{Message, Diagnostic, diagnostic_message}
use Rattle.pyc_types.specs.Assignable.{Assignable}

-- what a reading lists: a diagnostic, or a row of obligations, whether they hold or not
pub data Entry : Type 0 where
  diagnostic_of : Diagnostic → Entry
  required_row : List Obligation → Entry

-- all that a reading lists, in order
abbrev pub listed : {A : Type 0} → (Key → Answer) → Reading A → List Entry
listed answers (Done a) = []
listed answers (Ask key go) = listed answers (go (answers key))
listed answers (Report diagnostic rest) = diagnostic_of diagnostic ∷ listed answers rest
listed answers (Require row rest) = required_row row ∷ listed answers rest

-- the obligations of a list of entries, in order
abbrev pub obligations_in : List Entry → List Obligation
obligations_in [] = []
obligations_in (diagnostic_of diagnostic ∷ rest) = obligations_in rest
obligations_in (required_row row ∷ rest) = row ++ obligations_in rest

-- an obligation holds: its type is assignable, by the written rules over the orders that are answered
abbrev pub Holds : (Key → Answer) → Obligation → Type 0
Holds answers o = Assignable (orders_by answers) o.got o.want

-- what a row of obligations reports: the message of the first that does not hold, if one does not
pub data RowReports (answers : Key → Answer) : List Obligation → List Message → Type 0 where
  no_obligation : RowReports answers [] []
  holding : {o : Obligation} {row : List Obligation} {messages : List Message}
      → Holds answers o → RowReports answers row messages → RowReports answers (o ∷ row) messages
  failing : {o : Obligation} {row : List Obligation}
      → (Holds answers o → ⊥) → RowReports answers (o ∷ row) (message_by (orders_by answers) o ∷ [])

-- what a list of entries reports
pub data Reports (answers : Key → Answer) : List Entry → List Message → Type 0 where
  no_entry : Reports answers [] []
  diagnostic_reported : {diagnostic : Diagnostic} {rest : List Entry} {messages : List Message}
      → Reports answers rest messages → Reports answers (diagnostic_of diagnostic ∷ rest)
      (diagnostic_message diagnostic ∷ messages)
  row_reported : {row : List Obligation} {rest : List Entry} {first messages : List Message}
      → RowReports answers row first → Reports answers rest messages
      → Reports answers (required_row row ∷ rest) (first ++ messages)

-- what is reported of a reading is what it lists reports
abbrev pub ReportedIsListed : Type 0
ReportedIsListed = (answers : Key → Answer) (r : Reading (Unit {0})) → Reports answers (listed answers r)
    (reported answers r)

-- the obligations that a reading lists are those that it requires, whether they hold or not
abbrev pub EachIsListed : Type 0
EachIsListed =
    (answers : Key → Answer) (r : Reading (Unit {0}))
    → obligations_in (listed answers r) ≡ obligations answers r
