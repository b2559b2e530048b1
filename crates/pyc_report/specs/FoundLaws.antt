-- What holds of messages in order.
use Rattle.std.specs.Prelude.{◌≡◌, false, List, [], ◌∷◌}
use Rattle.std.specs.List.{Contains, list_any}
use Rattle.std.specs.List.Sorted.{IsStrictlySortedBy}
use Rattle.pyc_report.specs.FoundOrder.{in_order, is_alike, place_cmp}
use Rattle.pyc_report.specs.Message.{Message}

-- each message in order is one of those that were reported
abbrev pub AreReported : Type 0
AreReported = (reported : List Message) (message : Message) → Contains (in_order reported) message → Contains reported
    message

-- a line, code and text is among them where it was reported, and nowhere else
abbrev pub AreFoundWhereReported : Type 0
AreFoundWhereReported =
    (reported : List Message) (message : Message)
    → list_any (is_alike message) (in_order reported) ≡ list_any (is_alike message) reported

-- no two of some messages have the same line, code and text
abbrev pub EachOnce : List Message → Type 0
EachOnce [] = Unit {0}
EachOnce (message ∷ rest) = (list_any (is_alike message) rest ≡ false) × EachOnce rest

-- nor of those in order
abbrev pub AreOnce : Type 0
AreOnce = (reported : List Message) → EachOnce (in_order reported)

-- each of them stands before those after it, by line, column, code and text
abbrev pub AreInOrder : Type 0
AreInOrder = (reported : List Message) → IsStrictlySortedBy place_cmp (in_order reported)
