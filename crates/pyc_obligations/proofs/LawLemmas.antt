-- What an obligation reports, and what comes of a test.
use Rattle.std.proofs.Common.{◌≡◌, Bool, true, false, if◌then◌else◌, [], ◌∷◌, ◌++◌, ◌↔◌, IsTrue, refl, sym, ap, ◌∙◌, subst}
use Rattle.std.proofs.lemmas.Bool.{false≢true}
use Rattle.pyc_obligations.proofs.Known.{run_judge_assignable}
use Rattle.pyc_obligations.proofs.QuietLemmas.{are_there}
use Rattle.pyc_obligations.specs.Judging.{judge_assignable}
use Rattle.pyc_obligations.specs.Laws.{JudgesAsWritten, ReportedWhereNotAssignable}
use Rattle.pyc_reading.proofs.RunLemmas.{runs_are_folds}
use Rattle.pyc_reading.specs.Answers.{Answer}
use Rattle.pyc_reading.specs.Traces.{Trace, owing}
use Rattle.pyc_reading.specs.Keys.{Key}
use Rattle.pyc_reading.specs.Listings.{Holds}
use Rattle.pyc_reading.specs.Owing.{holds, orders_by, message_by}
use Rattle.pyc_reading.specs.Readings.{result_of}
use Rattle.pyc_report.specs.Message.{Message}
use Rattle.pyc_type_forms.specs.Types.{Ty}
use Rattle.pyc_types.proofs.Rules.{meets_the_rules}
use Rattle.pyc_types.specs.Assignable.{Assignable}
use Rattle.pyc_types.specs.Ways.{assignable}

abbrev empty_trace : (Key → Answer) → Trace
empty_trace answers = record { answers = answers; keys = []; messages = [] }

-- to judge comes to the test by the orders of the answers
judge_assignable_result : (answers : Key → Answer) (got want : Ty) → result_of answers (judge_assignable got want) ≡ assignable (orders_by answers) got want
judge_assignable_result answers got want =
    ap (λ (found : Bool × Trace). found.0) (sym (runs_are_folds (judge_assignable got want) (empty_trace answers)) ∙ run_judge_assignable got want (empty_trace answers))

pub judges_as_written : JudgesAsWritten
judges_as_written answers got want =
    subst (λ b. IsTrue b ↔ Assignable (orders_by answers) got want) (sym (judge_assignable_result answers got want)) (meets_the_rules (orders_by answers) got want)

-- nothing where it holds, the message where it does not
by_holds : (P : Type 0) (message : Message) (goes : Bool) → (IsTrue goes ↔ P)
    → (((if goes then [] else (message ∷ [])) ++ [] ≡ []) ↔ P) × (((if goes then [] else (message ∷ [])) ++ [] ≡ message ∷ []) ↔ (P → ⊥))
by_holds P message true rules = (
  ((λ same. rules.0 refl), (λ p. refl)),
  ((λ same. absurd (false≢true (ap are_there same))), (λ never. absurd (never (rules.0 refl)))),
)
by_holds P message false rules = (
  ((λ same. absurd (false≢true (sym (ap are_there same)))), (λ p. absurd (false≢true (rules.1 p)))),
  ((λ same. λ p. false≢true (rules.1 p)), (λ never. refl)),
)

pub reported_where_not_assignable : ReportedWhereNotAssignable
unfolding owing
reported_where_not_assignable answers o =
    by_holds (Holds answers o) (message_by (orders_by answers) o) (holds answers o) (meets_the_rules (orders_by answers) o.got o.want)
