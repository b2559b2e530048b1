-- Known answers among other files.
use Rattle.std.proofs.Common.{◌≡◌, ℕ, zero, suc, ◌+◌, ◌<◌, ◌||◌, Bool, true, false, List, [], ◌∷◌, ◌++◌, length, map, take, get_or, Option, None, Some, is_some, option_map, if◌then◌else◌, true≢false, subst, refl, sym, ap, ◌∙◌}
use Rattle.std.proofs.Math.Logic.{∥∥₁_elim}
use Rattle.std.proofs.lemmas.List.{map-append, take_more}
use Rattle.std.specs.List.{list_any}
use Rattle.pyc_iface.specs.Answers.{answer_by}
use Rattle.pyc_iface.specs.CarryLaws.{AnswersStay}
use Rattle.pyc_iface.specs.Flags.{flag_at, is_flagged}
use Rattle.pyc_iface.specs.Looks.{answer_looks}
use Rattle.pyc_keys.proofs.NumberingLemmas.{none_some, same_some}
use Rattle.pyc_keys.specs.Numbering.{Numbering}
use Rattle.pyc_known_answers.proofs.SlotLemmas.{at_slot}
use Rattle.pyc_known_answers.specs.CarryLaws.{carried, KnownCarriesOver}
use Rattle.pyc_known_answers.specs.KnownAnswers.{AreKnownOf, IsAnswerAt}
use Rattle.pyc_known_answers.specs.LookedAnswers.{LookedAnswer, IsAnswerOf}
use Rattle.pyc_names.specs.Interfaces.{Interface}
use Rattle.pyc_names.specs.LookNumbers.{number_of}
use Rattle.pyc_names.specs.Looks.{Look}
use Rattle.pyc_names.specs.NotedLooks.{Noted, nothing_noted, everything_noted, numbers_noted, with_looks}
use Rattle.pyc_names.specs.NotedLooksView.{kept_numbers, noted_by, noted_in}
use Rattle.pyc_names.specs.declared.looks.Looks.{Looks as LooksOf}
use Rattle.pyc_reading.specs.Answers.{Answer}
use Rattle.pyc_reading.specs.Keys.{Key}

-- a test of numbers is one of looks
any_of_numbers : (test : ℕ → Bool) (looks : List Look) → list_any test (map number_of looks) ≡ list_any (λ look. test (number_of look)) looks
any_of_numbers test [] = refl
any_of_numbers test (look ∷ looks) = ap (λ b. test (number_of look) || b) (any_of_numbers test looks)

pub known_carries : KnownCarriesOver
known_carries flags files others stay key known clear is =
    let looked : list_any (is_flagged flags) (answer_looks files key) ≡ false = sym (any_of_numbers (flag_at flags) (answer_looks files key)) ∙ is.looks (flag_at flags) clear in
    let one = stay key looked in
    record {
      answers = is.answers ∙ one.0;
      looks = λ test none.
          any_of_numbers test (answer_looks others key) ∙ sym (one.1 (λ look. test (number_of look))) ∙ sym (any_of_numbers test (answer_looks files key)) ∙ is.looks test none;
    }

-- ---- what stays known

unless_flagged : (flags : List Bool) (others : List Interface) (key : Option Key) (x looked : LookedAnswer)
    → (x.looks (flag_at flags) ≡ false → IsAnswerAt others key x) → (if x.looks (flag_at flags) then None else Some x) ≡ Some looked
    → IsAnswerAt others key looked
unless_flagged flags others key x looked held h = by (x.looks (flag_at flags)) held h
  where
    by : (b : Bool) → (b ≡ false → IsAnswerAt others key x) → (if b then None else Some x) ≡ Some looked → IsAnswerAt others key looked
    by true held h = absurd (none_some h)
    by false held h = subst (IsAnswerAt others key) (same_some h) (held refl)

carried_at : (flags : List Bool) (files others : List Interface) → AnswersStay (is_flagged flags) files others
    → (known : Option LookedAnswer) (key : Option Key) (looked : LookedAnswer) → ((x : LookedAnswer) → known ≡ Some x → IsAnswerAt files key x)
    → carried flags known ≡ Some looked → IsAnswerAt others key looked
carried_at flags files others stay None key looked all h = absurd (none_some h)
carried_at flags files others stay (Some x) None looked all h = absurd (all x refl)
carried_at flags files others stay (Some x) (Some key) looked all h =
    unless_flagged flags others (Some key) x looked (λ clear. known_carries flags files others stay key x clear (all x refl)) h

-- what stays known is over the other files
pub carried_over : (flags : List Bool) (files others : List Interface) (keys : Numbering Key) (known new : Numbering LookedAnswer)
    → AnswersStay (is_flagged flags) files others → new ≡ (λ i. carried flags (known i)) → AreKnownOf files keys known → AreKnownOf others keys new
carried_over flags files others keys known new stay is are =
    ∥∥₁_elim are squash₁
    (λ all. ∣ (λ i looked h. carried_at flags files others stay (known i) (keys i) looked (all i) (sym (ap (λ g. g i) is) ∙ h)) ∣₁)

at_map : {A B : Type 0} (f : A → B) (xs : List A) (i : ℕ) (d : A) → f (get_or xs i d) ≡ get_or (map f xs) i (f d)
at_map f [] i d = refl
at_map f (x ∷ xs) zero d = refl
at_map f (x ∷ xs) (suc i) d = at_map f xs i d

-- by places
pub carried_slots : {B : Type 0} (f : B → LookedAnswer) (flags : List Bool) (known kept : List (Option B))
    → map (option_map f) kept ≡ map (carried flags) (map (option_map f) known) → at_slot f kept ≡ (λ i. carried flags (at_slot f known i))
carried_slots f flags known kept same =
    λ t i.
    (at_map (option_map f) kept i None
    ∙ ap (λ l. get_or l i None) same
    ∙ sym (at_map (carried flags) (map (option_map f) known) i None)
    ∙ ap (carried flags) (sym (at_map (option_map f) known i None))) t

-- one more
pub carried_more : {B : Type 0} (f : B → LookedAnswer) (flags : List Bool) (known kept next : List (Option B)) (i : ℕ) (x one : Option B)
    → i < length known → x ≡ get_or known i x → option_map f one ≡ carried flags (option_map f x) → next ≡ kept ++ one ∷ []
    → map (option_map f) kept ≡ map (carried flags) (map (option_map f) (take i known))
    → map (option_map f) next ≡ map (carried flags) (map (option_map f) (take (i + 1) known))
carried_more f flags known kept next i x one within is here made before =
    ap (map (option_map f)) made
    ∙ map-append (option_map f) kept (one ∷ [])
    ∙ (λ t. before t ++ here t ∷ [])
    ∙ sym (map-append (carried flags) (map (option_map f) (take i known)) (option_map f x ∷ []))
    ∙ ap (map (carried flags)) (sym (map-append (option_map f) (take i known) (x ∷ [])))
    ∙ ap (λ xs. map (carried flags) (map (option_map f) xs)) (sym (take_more known i x within ∙ ap (λ y. take i known ++ y ∷ []) (sym is)))

pub carried_one : (flags : List Bool) (x : LookedAnswer) (b : Bool) → b ≡ x.looks (flag_at flags)
    → (if b then None else Some x) ≡ carried flags (Some x)
carried_one flags x b e = ap (λ c. if c then None else Some x) e

-- ---- by the code

pub noted_numbers : (noted : LooksOf) (numbers : List ℕ) (test : ℕ → Bool) → Some numbers ≡ kept_numbers noted
    → list_any test numbers ≡ noted_in noted test
unfolding noted_in numbers_noted
noted_numbers noted numbers test are = ap (λ kept. noted_by kept test) are

pub noted_all : (noted : LooksOf) (test : ℕ → Bool) → None ≡ kept_numbers noted → true ≡ noted_in noted test
unfolding noted_in everything_noted
noted_all noted test are = ap (λ kept. noted_by kept test) are

-- an answer that is formed
pub formed : (interfaces : List Interface) (key : Key) (answer : Answer) (before noted : Noted) → before ≡ nothing_noted
    → answer ≡ answer_by interfaces key → noted ≡ with_looks before (answer_looks interfaces key)
    → IsAnswerOf interfaces key (record { answer = answer; looks = noted })
unfolding nothing_noted with_looks
formed interfaces key answer before noted none is looks =
    record {
      answers = is;
      looks = λ test clear. ap (λ (b : Noted). with_looks b (answer_looks interfaces key) test) (sym none) ∙ ap (λ (n : Noted). n test) (sym looks) ∙ clear;
    }
