-- What is found in a part of a file: the messages that were reported of it, in order, each line, code and text once.
use Rattle.std.specs.Prelude.{ℕ, Bool, ◌==◌, ◌&&◌, List, [], ◌∷◌, ◌++◌, if◌then◌else◌, bytes_eq}
use Rattle.std.specs.List.{list_any}
use Rattle.std.specs.declared.cmp.Ordering.{Ordering}
use Rattle.std.specs.Ordering.{nat_cmp, ordering_then}
use Rattle.pyc_report.specs.Message.{Message, code_of}
use Rattle.pyc_report.specs.Report.{text_cmp}
use Rattle.pyc_report.specs.Sort.{sorted}

-- two messages of one file compared by line, column, code and text
abbrev pub place_cmp : Message → Message → Ordering
place_cmp a b =
    ordering_then (nat_cmp a.line b.line)
    (ordering_then (nat_cmp a.column b.column)
    (ordering_then (text_cmp (code_of a.kind) (code_of b.kind)) (text_cmp a.text b.text)))

-- whether two messages of one file have the same line, code and text
abbrev pub is_alike : Message → Message → Bool
is_alike a b = a.line == b.line && (bytes_eq (code_of a.kind) (code_of b.kind) && bytes_eq a.text b.text)

-- some messages and one more, unless one of them is like it
abbrev pub with_message : List Message → Message → List Message
with_message messages message =
    if list_any (is_alike message) messages then messages else messages ++ (message ∷ [])

-- some messages and those of a list that none before them is like, in turn
abbrev pub with_messages : List Message → List Message → List Message
with_messages messages [] = messages
with_messages messages (message ∷ more) = with_messages (with_message messages message) more

-- messages in order, where of those with the same line, code and text the first alone stays
unfoldable pub in_order : List Message → List Message
in_order messages = with_messages [] (sorted place_cmp messages)
