-- What is reported is listed.
use Rattle.std.proofs.Common.{◌≡◌, Bool, true, false, if◌then◌else◌, List, [], ◌∷◌, ◌++◌, ◌↔◌, IsTrue, refl, ap}
use Rattle.std.proofs.lemmas.Bool.{false≢true}
use Rattle.pyc_reading.specs.Answers.{Answer}
use Rattle.pyc_reading.specs.Keys.{Key}
use Rattle.pyc_reading.specs.Listings.{Holds, RowReports, no_obligation, holding, failing, Reports, no_entry, diagnostic_reported, row_reported, listed, obligations_in}
use Rattle.pyc_reading.specs.Owing.{Obligation, holds, orders_by, message_by}
use Rattle.pyc_reading.specs.Owing as owing
use Rattle.pyc_reading.specs.Readings.{Reading, Done, Ask, Report, Require, reported, obligations}
use Rattle.pyc_types.proofs.Rules.{meets_the_rules}

by_first : (answers : Key → Answer) (o : Obligation) (row : List Obligation) (goes : Bool) → (IsTrue goes ↔ Holds answers o)
    → RowReports answers row (owing.row_reported answers row) → RowReports answers (o ∷ row) (if goes then owing.row_reported answers row else (message_by (orders_by answers) o ∷ []))
by_first answers o row true rules rest = holding (rules.0 refl) rest
by_first answers o row false rules rest = failing (λ p. false≢true (rules.1 p))

pub row_reports : (answers : Key → Answer) (row : List Obligation) → RowReports answers row (owing.row_reported answers row)
row_reports answers [] = no_obligation
row_reports answers (o ∷ row) = by_first answers o row (holds answers o) (meets_the_rules (orders_by answers) o.got o.want) (row_reports answers row)

pub reports : {A : Type 0} (answers : Key → Answer) (r : Reading A) → Reports answers (listed answers r) (reported answers r)
reports answers (Done a) = no_entry
reports answers (Ask key go) = reports answers (go (answers key))
reports answers (Report diagnostic rest) = diagnostic_reported (reports answers rest)
reports answers (Require row rest) = row_reported (row_reports answers row) (reports answers rest)

pub each_is_listed : {A : Type 0} (answers : Key → Answer) (r : Reading A) → obligations_in (listed answers r) ≡ obligations answers r
each_is_listed answers (Done a) = refl
each_is_listed answers (Ask key go) = each_is_listed answers (go (answers key))
each_is_listed answers (Report diagnostic rest) = each_is_listed answers rest
each_is_listed answers (Require row rest) = ap (λ l. row ++ l) (each_is_listed answers rest)
