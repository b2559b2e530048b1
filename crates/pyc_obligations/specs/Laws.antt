-- What an obligation reports, and what comes of a test of assignability.
use Rattle.std.specs.Prelude.{◌≡◌, [], ◌∷◌, ◌↔◌, IsTrue}
use Rattle.pyc_obligations.specs.Judging.{judge_assignable}
use Rattle.pyc_reading.specs.Answers.{Answer}
use Rattle.pyc_reading.specs.Traces.{required}
use Rattle.pyc_reading.specs.Keys.{Key}
use Rattle.pyc_reading.specs.Listings.{Holds}
use Rattle.pyc_reading.specs.Owing.{Obligation, orders_by, message_by}
use Rattle.pyc_reading.specs.Readings.{result_of, reported}
use Rattle.pyc_type_forms.specs.Types.{Ty}
use Rattle.pyc_types.specs.Assignable.{Assignable}

-- an obligation reports its message, or nothing: nothing exactly where the written rules lead from the one type to the
-- other, by the orders that are answered
abbrev pub ReportedWhereNotAssignable : Type 0
ReportedWhereNotAssignable =
    (answers : Key → Answer) (o : Obligation)
    → ((reported answers (required o) ≡ []) ↔ Holds answers o)
    × ((reported answers (required o) ≡ message_by (orders_by answers) o ∷ []) ↔ (Holds answers o → ⊥))

-- a type is judged to be assignable exactly where the written rules lead, by the orders that are answered
abbrev pub JudgesAsWritten : Type 0
JudgesAsWritten =
    (answers : Key → Answer) (got want : Ty)
    → IsTrue (result_of answers (judge_assignable got want)) ↔ Assignable (orders_by answers) got want
