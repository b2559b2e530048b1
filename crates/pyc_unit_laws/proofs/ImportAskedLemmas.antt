-- What readings one after another ask.
use Rattle.std.proofs.Common.{◌≡◌, Bool, true, false, if◌then◌else◌, List, [], ◌∷◌, ◌++◌, flat_map, refl, ap, sym, ◌∙◌, append_assoc, append-nil}
use Rattle.pyc_reading.specs.Answers.{Answer}
use Rattle.pyc_reading.specs.Keys.{Key}
use Rattle.pyc_reading.specs.Owing.{row_keys}
use Rattle.pyc_reading.specs.Readings.{Reading, Done, Ask, Report, Require, and_then, each, result_of, asked}

module _ (answers : Key → Answer) where
  -- the keys of the one and then of the other
  pub asked-and_then : {A B : Type 0} (r : Reading A) (next : A → Reading B) → asked answers (and_then r next) ≡ asked answers r ++ asked answers (next (result_of answers r))
  unfolding and_then
  asked-and_then (Done a) next = refl
  asked-and_then (Ask key go) next = ap (λ l. key ∷ l) (asked-and_then (go (answers key)) next)
  asked-and_then (Report diagnostic rest) next = asked-and_then rest next
  asked-and_then (Require row rest) next =
      ap (λ l. row_keys row ++ l) (asked-and_then rest next)
      ∙ sym (append_assoc (row_keys row) (asked answers rest) (asked answers (next (result_of answers rest))))

  -- some keys and then others
  pub asked-both : {A B : Type 0} (r : Reading A) (next : A → Reading B) (these those : List Key)
      → asked answers r ≡ these → ((a : A) → asked answers (next a) ≡ those) → asked answers (and_then r next) ≡ these ++ those
  asked-both r next these those first second =
      asked-and_then r next ∙ ap (λ l. l ++ asked answers (next (result_of answers r))) first ∙ ap (λ l. these ++ l) (second (result_of answers r))

  -- the keys of the first reading alone, where the second asks nothing
  pub asked-alone : {A B : Type 0} (r : Reading A) (next : A → Reading B) (these : List Key)
      → asked answers r ≡ these → ((a : A) → asked answers (next a) ≡ []) → asked answers (and_then r next) ≡ these
  asked-alone r next these first nothing = asked-both r next these [] first nothing ∙ append-nil these

  -- readings of some things in turn
  pub asked-each : {X : Type 0} (read : X → Reading (Unit {0})) (keys : X → List Key) (xs : List X)
      → ((x : X) → asked answers (read x) ≡ keys x) → asked answers (each read xs) ≡ flat_map keys xs
  asked-each read keys [] same = refl
  asked-each read keys (x ∷ xs) same =
      asked-both (read x) (λ u. each read xs) (keys x) (flat_map keys xs) (same x) (λ u. asked-each read keys xs same)

  -- nothing, or the keys of a reading
  pub asked-unless : {A : Type 0} (b : Bool) (a : A) (r : Reading A) (keys : List Key)
      → asked answers r ≡ keys → asked answers (if b then Done a else r) ≡ (if b then [] else keys)
  asked-unless true a r keys same = refl
  asked-unless false a r keys same = same
