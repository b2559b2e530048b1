-- Readings one after another.
use Rattle.std.proofs.Common.{◌≡◌, List, [], ◌∷◌, ◌++◌, flat_map, refl, sym, ap, ◌∙◌, append_assoc}
use Rattle.pyc_reading.specs.Answers.{Answer}
use Rattle.pyc_reading.specs.Keys.{Key}
use Rattle.pyc_reading.specs.Owing.{row_reported}
use Rattle.pyc_reading.specs.Readings.{Reading, Done, Ask, Report, Require, and_then, each, result_of, reported, obligations}
use Rattle.pyc_report.specs.Message.{diagnostic_message}

module _ (answers : Key → Answer) where
  -- what two readings report
  pub reported-and_then : {A B : Type 0} (r : Reading A) (next : A → Reading B) → reported answers (and_then r next) ≡ reported answers r ++ reported answers (next (result_of answers r))
  unfolding and_then
  reported-and_then (Done a) next = refl
  reported-and_then (Ask key go) next = reported-and_then (go (answers key)) next
  reported-and_then (Report diagnostic rest) next = ap (λ l. diagnostic_message diagnostic ∷ l) (reported-and_then rest next)
  reported-and_then (Require row rest) next =
      ap (λ l. row_reported answers row ++ l) (reported-and_then rest next)
      ∙ sym (append_assoc (row_reported answers row) (reported answers rest) (reported answers (next (result_of answers rest))))

  -- what two readings require
  pub obligations-and_then : {A B : Type 0} (r : Reading A) (next : A → Reading B) → obligations answers (and_then r next) ≡ obligations answers r ++ obligations answers (next (result_of answers r))
  unfolding and_then
  obligations-and_then (Done a) next = refl
  obligations-and_then (Ask key go) next = obligations-and_then (go (answers key)) next
  obligations-and_then (Report diagnostic rest) next = obligations-and_then rest next
  obligations-and_then (Require row rest) next =
      ap (λ l. row ++ l) (obligations-and_then rest next)
      ∙ sym (append_assoc row (obligations answers rest) (obligations answers (next (result_of answers rest))))

  -- what readings of each of some things report
  pub reported-each : {X : Type 0} (read : X → Reading (Unit {0})) (xs : List X) → reported answers (each read xs) ≡ flat_map (λ x. reported answers (read x)) xs
  reported-each read [] = refl
  reported-each read (x ∷ xs) = reported-and_then (read x) (λ u. each read xs) ∙ ap (λ l. reported answers (read x) ++ l) (reported-each read xs)

-- what readings one after another report
pub ruleset reportings = (reported-and_then, reported-each)
