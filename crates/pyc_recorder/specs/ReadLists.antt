-- What a reading comes to over the answers to some keys alone, and the list of keys that it needs: each is the one that
-- is lacking over the answers to those before it.
use Rattle.std.specs.Prelude.{◌≡◌, List, [], ◌∷◌, ◌++◌, map, Option, Some, None, is_some, unwrap_or, if◌then◌else◌}
use Rattle.std.specs.Map.{lookup}
use Rattle.pyc_keys.specs.KeyEquality.{is_asked}
use Rattle.pyc_reading.specs.Answers.{Answer, member_is}
use Rattle.pyc_reading.specs.Traces.{Step, with_keys}
use Rattle.pyc_reading.specs.Keys.{Key}
use Rattle.pyc_reading.specs.Owing.{row_keys, row_reported}
use Rattle.pyc_reading.specs.Readings.{Reading, Done, Ask, Report, Require, asked, reported}
use Rattle.pyc_report.specs.Message.{Message, diagnostic_message}

-- ---- answers to some keys

-- each of these keys with its answer
abbrev pub answered : (Key → Answer) → List Key → List (Key × Answer)
answered answers keys = map (λ key. (key, answers key)) keys

-- the answer to a key, if it is known
abbrev pub known_answer : List (Key × Answer) → Key → Option Answer
known_answer known key = lookup (is_asked key) known

-- the answers that are known; one that is not counts as one that a member is absent
abbrev pub by_known : List (Key × Answer) → Key → Answer
by_known known key = unwrap_or (known_answer known key) (member_is None)

-- of some keys the first whose answer is lacking
abbrev pub first_lacking : List (Key × Answer) → List Key → Option Key
first_lacking known [] = None
first_lacking known (key ∷ more) = if is_some (known_answer known key) then first_lacking known more else Some key

-- ---- readings over them

-- what a reading comes to: what it reports, or the key that is lacking
pub data Coming : Type 0 where
  reports : List Message → Coming
  lacks : Key → Coming

-- what comes after messages
abbrev pub after_reporting : List Message → Coming → Coming
after_reporting messages (reports more) = reports (messages ++ more)
after_reporting messages (lacks key) = lacks key

-- what comes of the answer to a key, if it is known
abbrev pub with_answer : Key → (Answer → Coming) → Option Answer → Coming
with_answer key go (Some answer) = go answer
with_answer key go None = lacks key

-- what comes where no key is lacking
abbrev pub unless_lacking : Option Key → Coming → Coming
unless_lacking (Some key) coming = lacks key
unless_lacking None coming = coming

-- what a reading comes to over the answers that are known; a row of obligations is asked as a whole
abbrev pub over : {A : Type 0} → List (Key × Answer) → Reading A → Coming
over known (Done a) = reports []
over known (Ask key go) = with_answer key (λ answer. over known (go answer)) (known_answer known key)
over known (Report diagnostic rest) = after_reporting (diagnostic_message diagnostic ∷ []) (over known rest)
over known (Require row rest) =
    unless_lacking (first_lacking known (row_keys row))
    (after_reporting (row_reported (by_known known) row) (over known rest))

-- ---- the list of a reading

-- each of the later keys is the one that is lacking over the answers to those before it, and over the answers to all of
-- them the reading comes to what it reports
abbrev pub IsListFrom : {A : Type 0} → (Key → Answer) → Reading A → (before later : List Key) → Type 0
IsListFrom answers r before [] = over (answered answers before) r ≡ reports (reported answers r)
IsListFrom answers r before (key ∷ later) =
    (over (answered answers before) r ≡ lacks key) × IsListFrom answers r (before ++ (key ∷ [])) later

-- these keys are the list of a reading
abbrev pub IsListOf : {A : Type 0} → (Key → Answer) → Reading A → List Key → Type 0
IsListOf answers r keys = IsListFrom answers r [] keys

-- the keys that a reading asks, each once, are its list
abbrev pub AskedAreTheList : Type 0
AskedAreTheList = (answers : Key → Answer) (r : Step (Unit {0})) → IsListOf answers r (with_keys [] (asked answers r))

-- no others are
abbrev pub OneListAlone : Type 0
OneListAlone =
    (answers : Key → Answer) (r : Step (Unit {0})) (keys : List Key)
    → IsListOf answers r keys → keys ≡ with_keys [] (asked answers r)
