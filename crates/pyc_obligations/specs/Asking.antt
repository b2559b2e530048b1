-- What readings of expressions ask of classes: the order of a class, and what it has under a name. A builtin class has
-- the order that the language gives it, which is asked of no file.
use Rattle.std.specs.Prelude.{ℕ, Bool, List, Option, None, take}
use Rattle.pyc_builtins.specs.MroTable.{builtin_orders}
use Rattle.pyc_class_ids.specs.Class.{Id, builtin, user}
use Rattle.pyc_class_ids.specs.Mro.{Mro, MroTable, is_unknown}
use Rattle.pyc_reading.specs.Answers.{Answer, MemberAnswer, member_is}
use Rattle.pyc_reading.specs.Traces.{Step, Trace}
use Rattle.pyc_reading.specs.Keys as key
use Rattle.pyc_reading.specs.Owing.{order_in, orders_by}
use Rattle.pyc_reading.specs.Readings.{Done, Ask}

-- the orders of classes at a trace
abbrev pub orders_at : Trace → MroTable
orders_at trace = orders_by trace.answers

-- the order of a class
abbrev pub class_order : Id → Step Mro
class_order (builtin c) = Done (builtin_orders (builtin c))
class_order (user m x) = Ask (key.class (user m x)) (λ answer. Done (order_in answer))

-- whether the order of a class is not known
abbrev pub is_unknown_class : Id → Step Bool
is_unknown_class (builtin c) = Done (is_unknown (builtin_orders (builtin c)))
is_unknown_class (user m x) = Ask (key.class (user m x)) (λ answer. Done (is_unknown (order_in answer)))

-- the member that an answer gives
abbrev pub member_in : Answer → Option MemberAnswer
member_in (member_is found) = found
member_in _ = None

-- what a class has under a name
abbrev pub ask_member : Id → List ℕ → Step (Option MemberAnswer)
ask_member c n = Ask (key.member (record { class = c; name = n })) (λ answer. Done (member_in answer))

-- a trace at which all messages but the first `count` were taken back
abbrev pub first_messages : ℕ → Trace → Trace
first_messages count trace = record { answers = trace.answers; keys = trace.keys; messages = take count trace.messages }
