-- How many calls may lie one in another is no part of the rule: going deeper gives the same.
use Rattle.std.specs.Prelude.{◌≡◌, ◌<◌, ℕ, codes, List, length, Contains, IsSome, Option}
use Rattle.pyc_arguments.specs.Arguments.{Arg}
use Rattle.pyc_arguments.specs.Reporting.{Call}
use Rattle.pyc_calls.specs.Called.{call_result, called_to, most_calls, typed}
use Rattle.pyc_calls.specs.Remembered.{nothing_met}
use Rattle.pyc_class_ids.specs.Class.{Id}
use Rattle.pyc_obligations.specs.Asking.{ask_member}
use Rattle.pyc_reading.specs.Answers.{Answer, MemberAnswer}
use Rattle.pyc_reading.specs.Keys.{Key}
use Rattle.pyc_reading.specs.Readings.{Reading, result_of, reported, asked, obligations}
use Rattle.pyc_type_forms.specs.Types.{Ty}

-- two readings come to the same over answers: they end in the same, report the same, ask the same keys, and require the
-- same
pub record ComesToSame {A : Type 0} (answers : Key → Answer) (r s : Reading A) : Type 0 where
  pub result : result_of answers r ≡ result_of answers s
  pub reported : reported answers r ≡ reported answers s
  pub asked : asked answers r ≡ asked answers s
  pub obligations : obligations answers r ≡ obligations answers s

-- the `__call__` of a class
abbrev pub call_of : (Key → Answer) → Id → Option MemberAnswer
call_of answers c = result_of answers (ask_member c (codes "__call__"))

-- each class with a `__call__` is among these
abbrev pub AllCallable : (Key → Answer) → List Id → Type 0
AllCallable answers classes = (c : Id) → IsSome (call_of answers c) → Contains classes c

-- at any two depths above the number of classes with a `__call__` a call comes to the same
abbrev pub DeeperGivesTheSame : Type 0
DeeperGivesTheSame =
    (answers : Key → Answer) (classes : List Id) → AllCallable answers classes
    → (call : Call) (args : List Arg) (callee : Ty) (depth deeper : ℕ)
    → length classes < depth → length classes < deeper
    → ComesToSame answers (typed (called_to depth call nothing_met args callee))
    (typed (called_to deeper call nothing_met args callee))

-- so the type of a call is that at any such depth
abbrev pub IsDeepEnough : Type 0
IsDeepEnough =
    (answers : Key → Answer) (classes : List Id) → AllCallable answers classes
    → (call : Call) (args : List Arg) (callee : Ty) (depth : ℕ)
    → length classes < depth → length classes < most_calls
    → ComesToSame answers (call_result call args callee) (typed (called_to depth call nothing_met args callee))
