-- What is found in a unit is what its listing reports, in order.
use Rattle.std.proofs.Common.{◌≡◌, Bool, true, false, if◌then◌else◌, List, [], ◌∷◌, ◌++◌, IsTrue, refl, sym, ap, ◌∙◌, subst}
use Rattle.pyc_body.specs.FoundLaws.{FoundIsListed, FoundWhereListed}
use Rattle.pyc_body.specs.FoundMessages.{reported_in}
use Rattle.pyc_units.specs.UnitReadings.{unit_reading}
use Rattle.std.specs.List.{Contains, list_any}
use Rattle.pyc_report.proofs.MessageOrderLemmas.{are_found_where_reported, are_reported}
use Rattle.pyc_report.specs.FoundOrder.{is_alike}
use Rattle.pyc_iface.specs.Answers.{answer_of}
use Rattle.pyc_reading.proofs.ListingLemmas.{reports}
use Rattle.pyc_reading.specs.Answers.{Answer}
use Rattle.pyc_reading.specs.Keys.{Key}
use Rattle.pyc_reading.specs.Listings.{RowReports, no_obligation, holding, failing, Reports, no_entry, diagnostic_reported, row_reported, listed}
use Rattle.pyc_reading.specs.Owing.{Obligation, holds, orders_by, message_by}
use Rattle.pyc_reading.specs.Owing as owing
use Rattle.pyc_reading.specs.Readings.{Reading, Done, Ask, Report, Require, reported}
use Rattle.pyc_report.specs.Message.{Message, diagnostic_message}
use Rattle.pyc_types.proofs.Rules.{meets_the_rules}

module _ (answers : Key → Answer) where
  -- a row of obligations reports one list of messages alone
  one_row : (row : List Obligation) (messages : List Message) → RowReports answers row messages → messages ≡ owing.row_reported answers row
  one_row [] messages no_obligation = refl
  one_row (o ∷ row) messages (holding held rest) =
      let is : IsTrue (holds answers o) = (meets_the_rules (orders_by answers) o.got o.want).1 held in
      one_row row messages rest ∙ sym (ap (λ b. if b then owing.row_reported answers row else (message_by (orders_by answers) o ∷ [])) is)
  one_row (o ∷ row) messages (failing fails) = by (holds answers o) refl
    where
      by : (b : Bool) → holds answers o ≡ b → message_by (orders_by answers) o ∷ [] ≡ (if b then owing.row_reported answers row else (message_by (orders_by answers) o ∷ []))
      by true is = absurd (fails ((meets_the_rules (orders_by answers) o.got o.want).0 is))
      by false is = refl

  -- and so does a listing
  one_reporting : {A : Type 0} (r : Reading A) (messages : List Message) → Reports answers (listed answers r) messages → messages ≡ reported answers r
  one_reporting (Done a) messages no_entry = refl
  one_reporting (Ask key go) messages reporting = one_reporting (go (answers key)) messages reporting
  one_reporting (Report diagnostic rest) messages (diagnostic_reported {messages = more} later) = ap (λ l. diagnostic_message diagnostic ∷ l) (one_reporting rest more later)
  one_reporting (Require row rest) messages (row_reported {first = first} {messages = more} now later) =
      (λ i. one_row row first now i ++ one_reporting rest more later i)

pub found_is_listed : FoundIsListed
found_is_listed options files file unit = (reported_in options files file unit, reports (answer_of files) (unit_reading options file unit), refl)

pub found_where_listed : FoundWhereListed
found_where_listed options files file unit messages listing message =
    let one : messages ≡ reported_in options files file unit = one_reporting (answer_of files) (unit_reading options file unit) messages listing in (
      are_found_where_reported (reported_in options files file unit) message ∙ ap (list_any (is_alike message)) (sym one),
      λ found. subst (λ l. Contains l message) (sym one) (are_reported (reported_in options files file unit) message found),
    )
