-- What a report says, by the messages that files have: which lines, in which sequence, and which numbers.
use Rattle.std.specs.Prelude.{◌≡◌, ◌↔◌, ℕ, false, IsTrue, List, [], ◌∷◌, ◌++◌, length, map}
use Rattle.std.specs.List.{All, Contains, concat}
use Rattle.std.specs.List.Sorted.{IsStrictlySortedBy}
use Rattle.std.specs.Ordering.{is_gt}
use Rattle.pyc_report.specs.declared.message.MessageKind.TheVariants.{Note}
use Rattle.pyc_report.specs.Message.{Message}
use Rattle.pyc_report.specs.Report.{Found, Located, Report, located, message_cmp, printed_line, summary, report_of}

-- ---- texts

-- no text stands in a list twice
abbrev pub HasNoRepeats : List (List ℕ) → Type 0
HasNoRepeats [] = Unit {0}
HasNoRepeats (text ∷ texts) = (Contains texts text → ⊥) × HasNoRepeats texts

-- there are so many texts of a sort: as many as stand in a list of just these, each once
pub record Counts (IsOne : List ℕ → Type 0) (count : ℕ) : Type 0 where
  pub texts : List (List ℕ)
  pub once : HasNoRepeats texts
  pub just : (text : List ℕ) → Contains texts text ↔ IsOne text
  pub are : length texts ≡ count

-- ---- messages, where `Has` says which messages the file of a path has

-- a message is no note
abbrev pub IsError : Message → Type 0
IsError message = message.kind ≡ Note → ⊥

-- a message is one of a file, at its path
pub record IsReported (Has : List ℕ → Message → Type 0) (message : Located) : Type 0 where
  pub path : List ℕ
  pub own : Message
  pub has : Has path own
  pub is : message ≡ located path own

-- a message of a file prints this line
abbrev pub Prints : (List ℕ → Message → Type 0) → List ℕ → Type 0
Prints Has line =
    (path : List ℕ) × (message : Message) × Has path message × (printed_line (located path message) ≡ line)

-- an error of a file prints this line
abbrev pub PrintsError : (List ℕ → Message → Type 0) → List ℕ → Type 0
PrintsError Has line =
    (path : List ℕ) × (message : Message) × Has path message × IsError message
    × (printed_line (located path message) ≡ line)

-- a file of this path has an error
abbrev pub HasError : (List ℕ → Message → Type 0) → List ℕ → Type 0
HasError Has path = (message : Message) × Has path message × IsError message

-- ---- reports

-- one of these messages prints the line of a message, and does not stand after it
abbrev pub HasLine : List Located → Located → Type 0
HasLine messages message =
    (printed : Located) × Contains messages printed × (printed_line printed ≡ printed_line message)
    × (is_gt (message_cmp printed message) ≡ false)

-- these are the messages whose lines are printed: of all that print one line, the first
pub record ArePrinted (Has : List ℕ → Message → Type 0) (messages : List Located) : Type 0 where
  pub reported : All (IsReported Has) messages
  pub in_order : IsStrictlySortedBy message_cmp messages
  pub once : HasNoRepeats (map printed_line messages)
  pub first : (message : Located) → IsReported Has message → HasLine messages message
  pub just : (line : List ℕ) → Contains (map printed_line messages) line ↔ Prints Has line

-- a report on so many files: the lines of messages, and then the summary, with the numbers of the lines that errors
-- print and of the files with an error
pub record IsReport (Has : List ℕ → Message → Type 0) (checked : ℕ) (report : Report) : Type 0 where
  pub messages : List Located
  pub printed : ArePrinted Has messages
  pub errors : ℕ
  pub are_errors : Counts (PrintsError Has) errors
  pub files : ℕ
  pub are_files : Counts (HasError Has) files
  pub text : report.text ≡ concat (map printed_line messages) ++ summary errors files checked
  pub clean : IsTrue report.clean ↔ ((path : List ℕ) (message : Message) → Has path message → IsError message → ⊥)

-- ---- the law

-- a message of what was found in files
abbrev pub HasFound : List Found → List ℕ → Message → Type 0
HasFound founds path message =
    (found : Found) × Contains founds found × (found.path ≡ path) × Contains found.messages message

-- the report on what was found in files is one on the messages that were found
abbrev pub ReportsFound : Type 0
ReportsFound = (founds : List Found) → IsReport (HasFound founds) (length founds) (report_of founds)
