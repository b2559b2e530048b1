-- What readings one after another ask, and what they come to.
use Rattle.std.proofs.Common.{◌≡◌, List, ◌++◌, refl, ap, ◌∙◌}
use Rattle.pyc_expression_laws.proofs.AskedLemmas.{asked-and_then}
use Rattle.pyc_expression_laws.specs.Rows.{Answers}
use Rattle.pyc_reading.specs.Traces.{Step}
use Rattle.pyc_reading.specs.Keys.{Key}
use Rattle.pyc_reading.specs.Readings.{Done, Ask, Report, Require, and_then, asked, result_of}

-- some keys, and then those that are asked after what the first came to
pub asked-after : {A B : Type 0} (answers : Answers) (r : Step A) (next : A → Step B) (these those : List Key)
    → asked answers r ≡ these → asked answers (next (result_of answers r)) ≡ those → asked answers (and_then r next) ≡ these ++ those
asked-after answers r next these those first second =
    asked-and_then answers r next ∙ ap (λ l. l ++ asked answers (next (result_of answers r))) first ∙ ap (λ l. these ++ l) second

-- what one reading after another comes to
pub result-and_then : {A B : Type 0} (answers : Answers) (r : Step A) (next : A → Step B) → result_of answers (and_then r next) ≡ result_of answers (next (result_of answers r))
unfolding and_then
result-and_then answers (Done a) next = refl
result-and_then answers (Ask key go) next = result-and_then answers (go (answers key)) next
result-and_then answers (Report diagnostic rest) next = result-and_then answers rest next
result-and_then answers (Require row rest) next = result-and_then answers rest next
