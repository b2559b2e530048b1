-- The keys that a reading asks, each once, are the one list of it.
use Rattle.std.proofs.Common.{◌≡◌, Bool, true, false, cond, ◌||◌, List, [], ◌∷◌, ◌++◌, Option, Some, None, is_some, unwrap_or, refl, sym, ◌∙◌, ap, subst, append-nil, append_assoc}
use Rattle.std.specs.List.{list_any}
use Rattle.std.proofs.lemmas.Bool.{false≢true}
use Rattle.pyc_keys.specs.KeyEquality.{is_asked, is_asked_equiv, keys_are}
use Rattle.pyc_recorder.specs.ReadLists.{AskedAreTheList, OneListAlone, Coming, IsListFrom, after_reporting, answered, by_known, first_lacking, known_answer, lacks, over, reports, unless_lacking, with_answer}
use Rattle.pyc_reading.proofs.OwingLemmas.{same_row}
use Rattle.pyc_reading.specs.Answers.{Answer, member_is}
use Rattle.pyc_reading.specs.Traces.{with_keys}
use Rattle.pyc_reading.specs.Frames.{Agree, nothing_asked, one_more}
use Rattle.pyc_reading.specs.Keys.{Key}
use Rattle.pyc_reading.specs.Owing.{row_keys, row_reported}
use Rattle.pyc_reading.specs.Readings.{Reading, Done, Ask, Report, Require, asked, reported}
use Rattle.pyc_report.specs.Message.{Message, diagnostic_message}

-- ---- keys among keys

-- whether a key is one of these
abbrev among : List Key → Key → Bool
among keys key = list_any (is_asked key) keys

-- of some keys the first that is none of these
abbrev first_of : List Key → List Key → Option Key
first_of keys [] = None
first_of keys (key ∷ more) = cond (among keys key) (first_of keys more) (Some key)

-- what is among the first is among all
among-left : (keys more : List Key) (key : Key) → among keys key ≡ true → among (keys ++ more) key ≡ true
among-left [] more key is = absurd (false≢true is)
among-left (first ∷ keys) more key is = by (is_asked key first) is (among-left keys more key)
  where
    by : (b : Bool) → b || among keys key ≡ true → (among keys key ≡ true → among (keys ++ more) key ≡ true) → b || among (keys ++ more) key ≡ true
    by true h rest = refl
    by false h rest = rest h

-- a key is among keys that it is one of
among-middle : (keys more : List Key) (key : Key) → among (keys ++ key ∷ more) key ≡ true
among-middle [] more key = ap (λ b. b || among more key) (is_asked_equiv.refl key)
among-middle (first ∷ keys) more key = by (is_asked key first) (among-middle keys more key)
  where
    by : (b : Bool) → among (keys ++ key ∷ more) key ≡ true → b || among (keys ++ key ∷ more) key ≡ true
    by true h = refl
    by false h = h

-- the first of two, if there is one, else the second
abbrev either_key : Option Key → Option Key → Option Key
either_key (Some key) other = Some key
either_key None other = other

first_of-append : (keys more rest : List Key) → first_of keys (more ++ rest) ≡ either_key (first_of keys more) (first_of keys rest)
first_of-append keys [] rest = refl
first_of-append keys (key ∷ more) rest = by (among keys key) (first_of-append keys more rest)
  where
    by : (b : Bool) → first_of keys (more ++ rest) ≡ either_key (first_of keys more) (first_of keys rest)
        → cond b (first_of keys (more ++ rest)) (Some key) ≡ either_key (cond b (first_of keys more) (Some key)) (first_of keys rest)
    by true same = same
    by false same = refl

-- ---- what is known of the answers to some keys

module _ (answers : Key → Answer) where
  -- the answer to a key among those that are known
  known-is : (keys : List Key) (key : Key) → known_answer (answered answers keys) key ≡ cond (among keys key) (Some (answers key)) None
  known-is [] key = refl
  known-is (first ∷ keys) key = by (is_asked key first) refl (known-is keys key)
    where
      by : (b : Bool) → is_asked key first ≡ b → known_answer (answered answers keys) key ≡ cond (among keys key) (Some (answers key)) None
          → cond b (Some (answers first)) (known_answer (answered answers keys) key) ≡ cond (b || among keys key) (Some (answers key)) None
      by true is rest = ap (λ k. Some (answers k)) (keys_are first key is)
      by false is rest = rest

  is-known : (keys : List Key) (key : Key) → is_some (known_answer (answered answers keys) key) ≡ among keys key
  is-known keys key = ap is_some (known-is keys key) ∙ by (among keys key)
    where
      by : (b : Bool) → is_some (cond b (Some (answers key)) None) ≡ b
      by true = refl
      by false = refl

  lacking-is : (keys more : List Key) → first_lacking (answered answers keys) more ≡ first_of keys more
  lacking-is keys [] = refl
  lacking-is keys (key ∷ more) = λ i. cond (is-known keys key i) (lacking-is keys more i) (Some key)

  by_known-is : (keys : List Key) (key : Key) → among keys key ≡ true → by_known (answered answers keys) key ≡ answers key
  by_known-is keys key is = ap (λ found. unwrap_or found (member_is None)) (known-is keys key ∙ ap (λ b. cond b (Some (answers key)) None) is)

  -- keys of which none is lacking
  agree_known : (keys more : List Key) → first_of keys more ≡ None → Agree (by_known (answered answers keys)) answers more
  agree_known keys [] none = nothing_asked
  agree_known keys (key ∷ more) none = by (among keys key) refl none (agree_known keys more)
    where
      by : (b : Bool) → among keys key ≡ b → cond b (first_of keys more) (Some key) ≡ None
          → (first_of keys more ≡ None → Agree (by_known (answered answers keys)) answers more) → Agree (by_known (answered answers keys)) answers (key ∷ more)
      by true is none rest = one_more (by_known-is keys key is) (rest none)
      by false is none rest = absurd (false≢true (sym (ap is_some none)))

  -- ---- what a reading comes to

  abbrev coming : List Message → Option Key → Coming
  coming messages None = reports messages
  coming messages (Some key) = lacks key

  after-coming : (messages more : List Message) (lacking : Option Key) → after_reporting messages (coming more lacking) ≡ coming (messages ++ more) lacking
  after-coming messages more None = refl
  after-coming messages more (Some key) = refl

  -- a row and what comes after it
  required-is : (keys : List Key) (lacking later : Option Key) (first reported_first more : List Message) → (lacking ≡ None → first ≡ reported_first)
      → unless_lacking lacking (after_reporting first (coming more later)) ≡ coming (reported_first ++ more) (either_key lacking later)
  required-is keys (Some key) later first reported_first more same = refl
  required-is keys None later first reported_first more same = after-coming first more later ∙ ap (λ l. coming (l ++ more) later) (same refl)

  -- over the answers to some keys: what it reports, or of the keys that it asks the first that is none of these
  over-is : {A : Type 0} (keys : List Key) (r : Reading A) → over (answered answers keys) r ≡ coming (reported answers r) (first_of keys (asked answers r))
  over-is keys (Done a) = refl
  over-is keys (Ask key go) = by (among keys key) refl (over-is keys (go (answers key)))
    where
      by : (b : Bool) → among keys key ≡ b
          → over (answered answers keys) (go (answers key)) ≡ coming (reported answers (go (answers key))) (first_of keys (asked answers (go (answers key))))
          → with_answer key (λ answer. over (answered answers keys) (go answer)) (known_answer (answered answers keys) key)
          ≡ coming (reported answers (go (answers key))) (cond (among keys key) (first_of keys (asked answers (go (answers key)))) (Some key))
      by true is rest =
          ap (with_answer key (λ answer. over (answered answers keys) (go answer))) (known-is keys key ∙ ap (λ b. cond b (Some (answers key)) None) is)
          ∙ rest
          ∙ ap (λ b. coming (reported answers (go (answers key))) (cond b (first_of keys (asked answers (go (answers key)))) (Some key))) (sym is)
      by false is rest =
          ap (with_answer key (λ answer. over (answered answers keys) (go answer))) (known-is keys key ∙ ap (λ b. cond b (Some (answers key)) None) is)
          ∙ ap (λ b. coming (reported answers (go (answers key))) (cond b (first_of keys (asked answers (go (answers key)))) (Some key))) (sym is)
  over-is keys (Report diagnostic rest) =
      ap (after_reporting (diagnostic_message diagnostic ∷ [])) (over-is keys rest) ∙ after-coming (diagnostic_message diagnostic ∷ []) (reported answers rest) (first_of keys (asked answers rest))
  over-is keys (Require row rest) =
      (λ i. unless_lacking (lacking-is keys (row_keys row) i) (after_reporting (row_reported (by_known (answered answers keys)) row) (over-is keys rest i)))
      ∙ required-is keys (first_of keys (row_keys row)) (first_of keys (asked answers rest)) (row_reported (by_known (answered answers keys)) row) (row_reported answers row) (reported answers rest)
      (λ none. same_row (by_known (answered answers keys)) answers row (agree_known keys (row_keys row) none))
      ∙ ap (coming (row_reported answers row ++ reported answers rest)) (sym (first_of-append keys (row_keys row) (asked answers rest)))

-- ---- keys, each once

-- the keys of a list that are none of these, each once
abbrev news : List Key → List Key → List Key
news keys [] = []
news keys (key ∷ more) = cond (among keys key) (news keys more) (key ∷ news (keys ++ key ∷ []) more)

with_keys-news : (keys more : List Key) → with_keys keys more ≡ keys ++ news keys more
with_keys-news keys [] = sym (append-nil keys)
with_keys-news keys (key ∷ more) = by (among keys key) (with_keys-news keys more) (with_keys-news (keys ++ key ∷ []) more)
  where
    by : (b : Bool) → with_keys keys more ≡ keys ++ news keys more → with_keys (keys ++ key ∷ []) more ≡ (keys ++ key ∷ []) ++ news (keys ++ key ∷ []) more
        → with_keys (cond b keys (keys ++ key ∷ [])) more ≡ keys ++ cond b (news keys more) (key ∷ news (keys ++ key ∷ []) more)
    by true old new = old
    by false old new = new ∙ append_assoc keys (key ∷ []) (news (keys ++ key ∷ []) more)

-- ---- the list of a reading

module _ {A : Type 0} (answers : Key → Answer) (r : Reading A) where
  -- of the keys that the reading asks these are known, and the later ones are left
  abbrev Left : List Key → List Key → Type 0
  Left before left = (later : List Key) → first_of (before ++ later) (asked answers r) ≡ first_of (before ++ later) left

  -- a key that is known
  left-known : (before : List Key) (key : Key) (left : List Key) → among before key ≡ true → Left before (key ∷ left) → Left before left
  left-known before key left is known later =
      known later ∙ ap (λ b. cond b (first_of (before ++ later) left) (Some key)) (among-left before later key is)

  -- a key that is taken down
  left-noted : (before : List Key) (key : Key) (left : List Key) → Left before (key ∷ left) → Left (before ++ key ∷ []) left
  left-noted before key left known later =
      let same = append_assoc before (key ∷ []) later in
      ap (λ keys. first_of keys (asked answers r)) same
      ∙ known (key ∷ later)
      ∙ ap (λ b. cond b (first_of (before ++ key ∷ later) left) (Some key)) (among-middle before later key)
      ∙ ap (λ keys. first_of keys left) (sym same)

  -- what is lacking where these are left
  lacking-now : (before left : List Key) → Left before left → over (answered answers before) r ≡ coming answers (reported answers r) (first_of before left)
  lacking-now before left known =
      over-is answers before r
      ∙ ap (coming answers (reported answers r)) (ap (λ keys. first_of keys (asked answers r)) (sym (append-nil before)) ∙ known [] ∙ ap (λ keys. first_of keys left) (append-nil before))

  is_list : (before left : List Key) → Left before left → IsListFrom answers r before (news before left)
  is_list before [] known = lacking-now before [] known
  is_list before (key ∷ left) known = by (among before key) refl (is_list before left) (is_list (before ++ key ∷ []) left)
    where
      by : (b : Bool) → among before key ≡ b → (Left before left → IsListFrom answers r before (news before left))
          → (Left (before ++ key ∷ []) left → IsListFrom answers r (before ++ key ∷ []) (news (before ++ key ∷ []) left))
          → IsListFrom answers r before (cond b (news before left) (key ∷ news (before ++ key ∷ []) left))
      by true is old new = old (left-known before key left is known)
      by false is old new = (
        lacking-now before (key ∷ left) known ∙ ap (λ b. coming answers (reported answers r) (cond b (first_of before left) (Some key))) is,
        new (left-noted before key left known),
      )

  abbrev is_reporting : Coming → Bool
  is_reporting (reports messages) = true
  is_reporting (lacks key) = false

  abbrev lacking_or : Key → Coming → Key
  lacking_or key (reports messages) = key
  lacking_or key (lacks other) = other

  not_both : (messages : List Message) (key : Key) (c : Coming) → c ≡ reports messages → c ≡ lacks key → ⊥
  not_both messages key c one other = false≢true (sym (ap is_reporting other) ∙ ap is_reporting one)

  only_list : (before left keys : List Key) → Left before left → IsListFrom answers r before keys → keys ≡ news before left
  only_list before [] [] known list = refl
  only_list before [] (key ∷ keys) known list =
      absurd (not_both (reported answers r) key (over (answered answers before) r) (lacking-now before [] known) list.0)
  only_list before (key ∷ left) keys known list = by (among before key) refl keys list (only_list before left) (only_list (before ++ key ∷ []) left)
    where
      here : among before key ≡ false → over (answered answers before) r ≡ lacks key
      here is = lacking-now before (key ∷ left) known ∙ ap (λ b. coming answers (reported answers r) (cond b (first_of before left) (Some key))) is

      by : (b : Bool) → among before key ≡ b → (ks : List Key) → IsListFrom answers r before ks
          → ((others : List Key) → Left before left → IsListFrom answers r before others → others ≡ news before left)
          → ((others : List Key) → Left (before ++ key ∷ []) left → IsListFrom answers r (before ++ key ∷ []) others → others ≡ news (before ++ key ∷ []) left)
          → ks ≡ cond b (news before left) (key ∷ news (before ++ key ∷ []) left)
      by true is ks l old new = old ks (left-known before key left is known) l
      by false is [] l old new = absurd (not_both (reported answers r) key (over (answered answers before) r) l (here is))
      by false is (first ∷ ks) l old new =
          let one : first ≡ key = ap (lacking_or key) (sym l.0 ∙ here is) in
          let rest : ks ≡ news (before ++ key ∷ []) left =
          new ks (left-noted before key left known) (subst (λ k. IsListFrom answers r (before ++ k ∷ []) ks) one l.1) in
          (λ i. one i ∷ rest i)

-- a reading's keys are its list
pub asked_are_the_list : AskedAreTheList
asked_are_the_list answers r =
    subst (IsListFrom answers r []) (sym (with_keys-news [] (asked answers r))) (is_list answers r [] (asked answers r) (λ later. refl))

-- and no others are
pub one_list_alone : OneListAlone
one_list_alone answers r keys list = only_list answers r [] (asked answers r) keys (λ later. refl) list ∙ sym (with_keys-news [] (asked answers r))
