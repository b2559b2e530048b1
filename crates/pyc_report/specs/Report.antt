-- The report on checked files: the messages in order, each printed line once, and a summary.
use Rattle.std.specs.Prelude.{ℕ, Bool, not, List, [], ◌∷◌, ◌++◌, map, filter, flat_map, length, codes, decimal}
use Rattle.std.specs.Prelude.{bytes_eq, ◌==◌, if◌then◌else◌, string_bytes}
use Rattle.std.specs.List.{concat, list_any}
use Rattle.std.specs.declared.cmp.Ordering.{Ordering}
use Rattle.std.specs.Ordering.{nat_cmp, ordering_then}
use Rattle.std.specs.Cmp.Lexicographic.{slice_cmp}
use Rattle.pyc_report.specs.declared.checked.Found.{Found as DeclaredFound}
use Rattle.pyc_report.specs.declared.reporting.Located.{Located as DeclaredLocated}
use Rattle.pyc_report.specs.declared.reporting.Placed.{Placed as DeclaredPlaced}
use Rattle.pyc_report.specs.declared.checked.Report.{Report as DeclaredReport}
use Rattle.pyc_report.specs.Message.{Message, code_of, message_in}
use Rattle.pyc_report.specs.Sort.{sorted}

-- what was found in one file: its path, and its messages
pub record Found : Type 0 where
  pub path : List ℕ
  pub messages : List Message

-- the text that is printed, and whether it names no error
pub record Report : Type 0 where
  pub text : List ℕ
  pub clean : Bool

-- a message with the path of its file, and with its code as it is printed, which is empty for a note
pub record Located : Type 0 where
  pub path : List ℕ
  pub line : ℕ
  pub column : ℕ
  pub code : List ℕ
  pub text : List ℕ

-- the message at its path
abbrev pub located : List ℕ → Message → Located
located path message =
    record {
      path = path;
      line = message.line;
      column = message.column;
      code = code_of message.kind;
      text = message.text;
    }

-- the messages of a file, each with its path
abbrev pub located_messages : Found → List Located
located_messages found = map (located found.path) found.messages

-- two texts compared byte by byte
abbrev pub text_cmp : List ℕ → List ℕ → Ordering
text_cmp = slice_cmp nat_cmp

-- two messages compared by path, line, column, code and text
abbrev pub message_cmp : Located → Located → Ordering
message_cmp a b =
    ordering_then (text_cmp a.path b.path)
    (ordering_then (nat_cmp a.line b.line)
    (ordering_then (nat_cmp a.column b.column)
    (ordering_then (text_cmp a.code b.code) (text_cmp a.text b.text))))

-- the messages of all files in order
unfoldable pub messages_in_order : List Found → List Located
messages_in_order founds = sorted message_cmp (flat_map located_messages founds)

-- whether a message is an error: it has a code
abbrev pub is_error : Located → Bool
is_error message = not (length message.code == 0)

-- `error: TEXT  [CODE]`, or `note: TEXT`
abbrev pub reported : Located → List ℕ
reported message =
    if is_error message
    then codes "error: " ++ (message.text ++ (codes "  [" ++ (message.code ++ codes "]")))
    else codes "note: " ++ message.text

-- `PATH:LINE: `, what is reported, and the line end
unfoldable pub printed_line : Located → List ℕ
printed_line message =
    message.path ++ (codes ":" ++ (decimal message.line ++ (codes ": " ++ (reported message ++ codes "\n"))))

-- the texts with each that stood before left out
abbrev pub without_repeats : List (List ℕ) → List (List ℕ)
without_repeats [] = []
without_repeats (x ∷ xs) = x ∷ filter (λ y. not (bytes_eq x y)) (without_repeats xs)

-- the lines of these messages, each once
abbrev pub lines_of : List Located → List (List ℕ)
lines_of messages = without_repeats (map printed_line messages)

-- the lines that are printed
unfoldable pub printed_lines : List Found → List (List ℕ)
printed_lines founds = lines_of (messages_in_order founds)

-- those of them that are printed for errors
unfoldable pub error_lines : List Found → List (List ℕ)
error_lines founds = lines_of (filter is_error (messages_in_order founds))

-- whether there is an error in the file
abbrev pub has_error : Found → Bool
has_error found = list_any is_error (located_messages found)

-- the paths of the files with an error, each once
unfoldable pub paths_with_error : List Found → List (List ℕ)
paths_with_error founds = without_repeats (map (λ found. found.path) (filter has_error founds))

-- a number with a noun, in the plural where the number is not 1
abbrev pub counted : ℕ → List ℕ → List ℕ
counted n noun = decimal n ++ (codes " " ++ (noun ++ (if n == 1 then [] else codes "s")))

-- the last line, from how many errors are printed, in how many files they are, and how many files were checked
unfoldable pub summary : ℕ → ℕ → ℕ → List ℕ
summary errors files checked =
    if errors == 0
    then codes "Success: no issues found in " ++ (counted checked (codes "source file") ++ codes "\n")
    else codes "Found " ++ (counted errors (codes "error") ++ (codes " in " ++ (counted files (codes "file")
    ++ (codes " (checked " ++ (counted checked (codes "source file") ++ codes ")\n")))))

-- the report on the files that were checked
unfoldable pub report_of : List Found → Report
report_of founds =
    let errors = length (error_lines founds) in
    record {
      text = concat (printed_lines founds) ++ summary errors (length (paths_with_error founds)) (length founds);
      clean = errors == 0;
    }

-- a message with its path, as plain values
abbrev pub located_in : DeclaredLocated → Located
located_in message =
    record {
      path = message.path.now;
      line = message.line;
      column = message.column;
      code = message.code.now;
      text = message.text.now;
    }

-- a message with its path, borrowed, as plain values
abbrev pub placed_in : DeclaredPlaced → Located
placed_in message = located message.path.now (message_in message.message.now)

-- what was found in a file, as plain values
abbrev pub found_in : DeclaredFound → Found
found_in found =
    record { path = found.path.now; messages = map (λ message. message_in message.now) found.messages.items }

-- the report as plain values
abbrev pub report_in : DeclaredReport → Report
report_in report = record { text = string_bytes report.text; clean = report.clean }
