-- Known answers are those of their keys.
use Rattle.std.proofs.Common.{◌≡◌, ℕ, ◌<◌, ◌==◌, ◌||◌, Bool, true, false, true≢false, List, [], ◌∷◌, length, map, Option, None, Some, is_some, option_map, subst, if◌then◌else◌, refl, sym, ap, ◌∙◌, arith}
use Rattle.std.proofs.lemmas.Bool.{eqb-true, eq-eqb, false≢true}
use Rattle.std.proofs.Math.Logic.{∥∥₁_elim}
use Rattle.std.specs.List.{list_any}
use mathlib.Core.HLevel.{Discrete, hedberg}
use Rattle.pyc_iface.specs.Answers.{answer_by}
use Rattle.pyc_iface.specs.Looks.{answer_looks}
use Rattle.pyc_keys.proofs.NumberingLemmas.{none_some, same_some, held_there}
use Rattle.pyc_keys.specs.Marks.{is_in}
use Rattle.pyc_keys.specs.Numbering.{Numbering, AreOf, Extends, only, with_item}
use Rattle.pyc_known_answers.specs.KnownAnswers.{AreKnownOf, IsAnswerAt, with_items}
use Rattle.pyc_known_answers.specs.KnownAnswersLaws.{StayWithMoreKeys, StayWithFewerKeys, StayWithoutOne}
use Rattle.pyc_known_answers.specs.LookedAnswers.{LookedAnswer, IsAnswerOf, AreAnswersOf}
use Rattle.pyc_names.specs.Interfaces.{Interface}
use Rattle.pyc_names.specs.LookNumbers.{number_of}
use Rattle.pyc_reading.specs.Answers.{Answer}
use Rattle.pyc_reading.specs.Keys.{Key}
use Rattle.pyc_known_answers.proofs.EqualityLemmas.{answers_decide}
use Rattle.pyc_known_answers.specs.SameAnswers.{same_answer}

-- ---- two proofs that an answer is the one to a key are the same

answer_discrete : Discrete Answer
answer_discrete x y = by (same_answer x y) refl
  where
    by : (b : Bool) → same_answer x y ≡ b → Dec (x ≡ y)
    by true e = yes ((answers_decide x y).0 e)
    by false e = no (λ same. true≢false (sym ((answers_decide x y).1 same) ∙ e))

test_discrete : Discrete Bool
test_discrete true true = yes refl
test_discrete true false = no true≢false
test_discrete false true = no false≢true
test_discrete false false = yes refl

pub one_proof : (interfaces : List Interface) (key : Key) (looked : LookedAnswer) → IsProp (IsAnswerOf interfaces key looked)
one_proof interfaces key looked p q =
    λ t.
    record {
      answers = hedberg answer_discrete looked.answer (answer_by interfaces key) p.answers q.answers t;
      looks = λ test clear.
          hedberg test_discrete (list_any test (map number_of (answer_looks interfaces key))) false (p.looks test clear) (q.looks test clear) t;
    }

pub one_list : (interfaces : List Interface) (asked : List Key) (given : List LookedAnswer) → IsProp (AreAnswersOf interfaces asked given)
one_list interfaces [] [] p q = refl
one_list interfaces [] (g ∷ gs) p q = absurd p
one_list interfaces (k ∷ ks) [] p q = absurd p
one_list interfaces (k ∷ ks) (g ∷ gs) p q = λ t. (one_proof interfaces k g p.0 q.0 t, one_list interfaces ks gs p.1 q.1 t)

module _ (interfaces : List Interface) where
  -- ---- known answers

  -- where none is known
  pub none_known : (keys : Numbering Key) (known : Numbering LookedAnswer) → ((i : ℕ) → known i ≡ None) → AreKnownOf interfaces keys known
  none_known keys known none = ∣ (λ i looked h. absurd (none_some (sym (none i) ∙ h))) ∣₁

  -- the known answer to a key
  pub known_to : (keys : Numbering Key) (known : Numbering LookedAnswer) (i : ℕ) (x : LookedAnswer) (key : Key) → AreKnownOf interfaces keys known
      → keys i ≡ Some key → known i ≡ Some x → IsAnswerOf interfaces key x
  known_to keys known i x key are held h =
      ∥∥₁_elim are (one_proof interfaces key x) (λ all. subst (λ k. IsAnswerAt interfaces k x) held (all i x h))

  -- one more, which was formed elsewhere
  pub one_more_kept : (keys : Numbering Key) (known new : Numbering LookedAnswer) (i : ℕ) (x : LookedAnswer) (key : Key)
      → AreKnownOf interfaces keys known → keys i ≡ Some key → IsAnswerOf interfaces key x → new ≡ with_item known i x
      → AreKnownOf interfaces keys new
  one_more_kept keys known new i x key are held is more =
      ∥∥₁_elim are squash₁ (λ all. ∣ (λ j y h. by all j y (i == j) refl (sym (ap (λ g. g j) more) ∙ h)) ∣₁)
    where
      by : ((j : ℕ) (y : LookedAnswer) → known j ≡ Some y → IsAnswerAt interfaces (keys j) y) → (j : ℕ) (y : LookedAnswer) (b : Bool)
          → (i == j) ≡ b → (if b then Some x else known j) ≡ Some y → IsAnswerAt interfaces (keys j) y
      by all j y true e h =
          subst (λ k. IsAnswerAt interfaces k y) (sym held ∙ ap keys (eqb-true i j e)) (subst (IsAnswerOf interfaces key) (same_some h) is)
      by all j y false e h = all j y h

-- an answer that is shared
pub same_known : (interfaces : List Interface) (key : Key) (x y : LookedAnswer) → y ≡ x → IsAnswerOf interfaces key x → IsAnswerOf interfaces key y
same_known interfaces key x y same is = subst (IsAnswerOf interfaces key) (sym same) is

-- where `known` are answers of the world `interfaces`, so are `new` of the world `others`, which are equal to these
pub over_same : (interfaces others : List Interface) (keys : Numbering Key) (known new : Numbering LookedAnswer) → others ≡ interfaces
    → new ≡ known → AreKnownOf interfaces keys known → AreKnownOf others keys new
over_same interfaces others keys known new world same are =
    subst (λ w. AreKnownOf w keys new) (sym world) (subst (AreKnownOf interfaces keys) (sym same) are)

-- ---- answers of several numbers

abbrev empty : {A : Type 0} → List A → Bool
empty [] = true
empty (x ∷ xs) = false

abbrev first : {A : Type 0} → A → List A → A
first x [] = x
first x (y ∷ ys) = y

abbrev others : {A : Type 0} → List A → List A
others [] = []
others (y ∷ ys) = ys

module _ {A : Type 0} (keys : Numbering Key) (f : A → LookedAnswer) (interfaces : List Interface) where
  -- numbers that are left, and the answers to their keys
  abbrev pub AreLeft : List ℕ → List A → Type 0
  AreLeft ids answers = (left : List Key) × AreOf keys ids left × AreAnswersOf interfaces left (map f answers)

  -- the first of them
  pub first_left : (i : ℕ) (is : List ℕ) (a : A) (bs : List A) → AreLeft (i ∷ is) (a ∷ bs)
      → (k : Key) × (keys i ≡ Some k) × IsAnswerOf interfaces k (f a) × AreLeft is bs
  first_left i is a bs ([], of, given) = absurd given
  first_left i is a bs (k ∷ ks, of, given) = (k, ap (first None) of, given.0, (ks, ap others of, given.1))

  -- where no number is left, no answer is
  pub none_left : (ids : List ℕ) (a : A) (bs : List A) → length ids ≡ 0 → AreLeft ids (a ∷ bs) → ⊥
  none_left [] a bs none ([], of, given) = given
  none_left [] a bs none (k ∷ ks, of, given) = true≢false (ap empty of)
  none_left (i ∷ is) a bs none left = omega (arith, none)

-- ---- several that are kept

pub in_first : (i : ℕ) (is : List ℕ) → is_in (i ∷ is) i ≡ true
in_first i is = ap (λ b. b || is_in is i) (eq-eqb i i refl)

pub in_rest : (i : ℕ) (is : List ℕ) (j : ℕ) → is_in is j ≡ true → is_in (i ∷ is) j ≡ true
in_rest i is j h = by (i == j)
  where
    by : (b : Bool) → (b || is_in is j) ≡ true
    by true = refl
    by false = h

with_none : {A : Type 0} (held : Numbering A) (ids : List ℕ) → with_items held ids [] ≡ held
with_none held [] = refl
with_none held (i ∷ is) = refl

pub with_no_number : {A : Type 0} (held : Numbering A) (ids : List ℕ) (items : List A) → length ids ≡ 0
    → with_items held ids items ≡ held
with_no_number held [] items none = refl
with_no_number held (i ∷ is) items none = absurd (omega (arith, none))

pub with_no_item : {A B : Type 0} (held : Numbering A) (ids : List ℕ) (f : B → A) (xs : List B) → length xs ≡ 0
    → with_items held ids (map f xs) ≡ held
with_no_item held ids f [] none = with_none held ids
with_no_item held ids f (x ∷ xs) none = absurd (omega (arith, none))

-- ---- plain answers

-- what the looked answers of numbers answer
abbrev pub plain : Numbering LookedAnswer → Numbering Answer
plain known i = option_map (λ looked. looked.answer) (known i)

abbrev pub plain_list : List LookedAnswer → List Answer
plain_list given = map (λ looked. looked.answer) given

pub plain_values : {A : Type 0} (f : A → LookedAnswer) (xs : List A) → plain_list (map f xs) ≡ map (λ x. (f x).answer) xs
plain_values f [] = refl
plain_values f (x ∷ xs) = ap (λ (l : List Answer). (f x).answer ∷ l) (plain_values f xs)

module _ (interfaces : List Interface) (keys : Numbering Key) where
  own_known : (known : Numbering LookedAnswer) (i : ℕ) (k : Key) (a : LookedAnswer) → AreKnownOf interfaces keys known → keys i ≡ Some k
      → IsAnswerOf interfaces k a → Extends (plain known) (plain (with_item known i a))
  own_known known i k a are held is = λ j x h. by j x (i == j) refl h
    where
      was : (j : ℕ) (x : Answer) → i ≡ j → (looked : Option LookedAnswer) → known j ≡ looked → option_map (λ l. l.answer) looked ≡ Some x → a.answer ≡ x
      was j x e None o h = absurd (none_some h)
      was j x e (Some looked) o h =
          is.answers ∙ sym (known_to interfaces keys known j looked k are (ap keys (sym e) ∙ held) o).answers ∙ same_some h

      by : (j : ℕ) (x : Answer) (b : Bool) → (i == j) ≡ b → plain known j ≡ Some x
          → option_map (λ looked. looked.answer) (if b then Some a else known j) ≡ Some x
      by j x true e h = ap (λ y. Some y) (was j x (eqb-true i j e) (known j) refl h)
      by j x false e h = h

  -- answers that are kept are known from then on, and what was known still is
  pub all_kept : (known : Numbering LookedAnswer) (ids : List ℕ) (asked : List Key) (given : List LookedAnswer)
      → AreKnownOf interfaces keys known → AreOf keys ids asked → AreAnswersOf interfaces asked given
      → Extends (plain known) (plain (with_items known ids given)) × AreOf (plain (with_items known ids given)) ids (plain_list given)
  all_kept known [] [] [] are of is = ((λ j x h. h), refl)
  all_kept known [] [] (g ∷ gs) are of is = absurd is
  all_kept known [] (k ∷ ks) given are of is = absurd (true≢false (ap empty of))
  all_kept known (i ∷ ids) [] given are of is = absurd (true≢false (sym (ap empty of)))
  all_kept known (i ∷ ids) (k ∷ ks) [] are of is = absurd is
  all_kept known (i ∷ ids) (k ∷ ks) (g ∷ gs) are of is =
      let held : keys i ≡ Some k = ap (first None) of in
      let rest : AreOf keys ids ks = ap others of in
      let kept : AreKnownOf interfaces keys (with_item known i g) = one_more_kept interfaces keys known (with_item known i g) i g k are held is.0 refl in
      let later = all_kept (with_item known i g) ids ks gs kept rest is.1 in
      let here : plain (with_items (with_item known i g) ids gs) i ≡ Some g.answer =
      later.0 i g.answer (ap (option_map (λ looked. looked.answer)) (held_there known i g)) in
      let after : map (plain (with_items (with_item known i g) ids gs)) ids ≡ map (λ a. Some a) (plain_list gs) = later.1 in
      ((λ j x h. later.0 j x (own_known known i k g are held is.0 j x h)), (λ t. here t ∷ after t))

  -- what was known before, and those that were given
  pub still_known : (before now : Numbering LookedAnswer) (ids : List ℕ) (asked : List Key) (given : List LookedAnswer)
      → AreKnownOf interfaces keys before → AreOf keys ids asked → AreAnswersOf interfaces asked given → now ≡ with_items before ids given
      → Extends (plain before) (plain now)
  still_known before now ids asked given are of is new =
      subst (λ known. Extends (plain before) (plain known)) (sym new) (all_kept before ids asked given are of is).0

  pub given_known : (before now : Numbering LookedAnswer) (ids : List ℕ) (asked : List Key) (given : List LookedAnswer)
      → AreKnownOf interfaces keys before → AreOf keys ids asked → AreAnswersOf interfaces asked given → now ≡ with_items before ids given
      → AreOf (plain now) ids (plain_list given)
  given_known before now ids asked given are of is new =
      subst (λ known. AreOf (plain known) ids (plain_list given)) (sym new) (all_kept before ids asked given are of is).1

-- a number that stands for a key is held
are_held : (keys : Numbering Key) (ids : List ℕ) (asked : List Key) (i : ℕ) → AreOf keys ids asked → is_in ids i ≡ true → is_some (keys i) ≡ true
are_held keys [] asked i of is = absurd (true≢false (sym is))
are_held keys (j ∷ js) [] i of is = absurd (true≢false (sym (ap empty of)))
are_held keys (j ∷ js) (k ∷ ks) i of is = by (j == i) refl is (are_held keys js ks i (ap others of))
  where
    by : (b : Bool) → (j == i) ≡ b → (b || is_in js i) ≡ true → (is_in js i ≡ true → is_some (keys i) ≡ true) → is_some (keys i) ≡ true
    by true e is later = ap (λ n. is_some (keys n)) (sym (eqb-true j i e)) ∙ ap is_some (ap (first None) of)
    by false e is later = later is

-- it has a place where there is one for each up to a bound
pub has_place : (keys : Numbering Key) (ids : List ℕ) (asked : List Key) (bound room : ℕ) → AreOf keys ids asked
    → ((i : ℕ) → is_some (keys i) ≡ true → i < bound) → bound < room → (i : ℕ) → is_in ids i ≡ true → i < room
has_place keys ids asked bound room of below wide i is =
    let within : i < bound = below i (are_held keys ids asked i of is) in
    omega (arith, within, wide)

-- ---- laws

module _ (interfaces : List Interface) where
  more_held : (o n : Option Key) (x : LookedAnswer) → ((k : Key) → o ≡ Some k → n ≡ Some k) → IsAnswerAt interfaces o x → IsAnswerAt interfaces n x
  more_held None n x m h = absurd h
  more_held (Some k) n x m h = subst (λ o. IsAnswerAt interfaces o x) (sym (m k refl)) h

  fewer_held : (o n : Option Key) (k : Option LookedAnswer) (x : LookedAnswer) → ((a : Key) → n ≡ Some a → o ≡ Some a)
      → (k ≡ Some x → IsAnswerAt interfaces o x) → (if is_some n then k else None) ≡ Some x → IsAnswerAt interfaces n x
  fewer_held o None k x m all h = absurd (none_some h)
  fewer_held o (Some a) k x m all h = subst (λ key. IsAnswerAt interfaces key x) (m a refl) (all h)

pub stay_with_more_keys : StayWithMoreKeys
stay_with_more_keys interfaces old new known more are =
    ∥∥₁_elim are squash₁ (λ all. ∣ (λ i x h. more_held interfaces (old i) (new i) x (more i) (all i x h)) ∣₁)

pub stay_with_fewer_keys : StayWithFewerKeys
stay_with_fewer_keys interfaces old new known fewer are =
    ∥∥₁_elim are squash₁ (λ all. ∣ (λ i x h. fewer_held interfaces (old i) (new i) (known i) x (fewer i) (all i x) h) ∣₁)

-- some of the keys that are held
pub only_extends : {A : Type 0} (numbers : List ℕ) (held : Numbering A) → Extends (only numbers held) held
only_extends {A} numbers held i a h = by (is_in numbers i) h
  where
    by : (b : Bool) → (if b then held i else None) ≡ Some a → held i ≡ Some a
    by true h = h
    by false h = absurd (none_some h)

pub stay_without_one : StayWithoutOne
stay_without_one interfaces keys known i are = ∥∥₁_elim are squash₁ (λ all. ∣ (λ j x h. by all j x (i == j) h) ∣₁)
  where
    by : ((j : ℕ) (x : LookedAnswer) → known j ≡ Some x → IsAnswerAt interfaces (keys j) x) → (j : ℕ) (x : LookedAnswer) (b : Bool)
        → (if b then None else known j) ≡ Some x → IsAnswerAt interfaces (if b then None else keys j) x
    by all j x true h = absurd (none_some h)
    by all j x false h = all j x h
