-- Flags on numbers of looks.
use Rattle.std.proofs.Common.{◌≡◌, ℕ, zero, suc, ◌<◌, ◌≤◌, ◌+◌, ◌*◌, Bool, true, false, ◌||◌, ◌==◌, List, [], ◌∷◌, length, slice_set, map, Some, None, refl, sym, ap, ◌∙◌, arith}
use lib.Dec.{eqb-zero-suc, eqb-suc-zero, eqb-suc-suc}
use Rattle.std.proofs.lemmas.List.{set_past}
use Rattle.std.proofs.lemmas.Nat.{mod_below}
use Rattle.std.specs.List.{list_any}
use Rattle.pyc_iface.specs.Flags.{flag_at, is_flagged, is_noted}
use Rattle.pyc_names.specs.CarryLaws.{SameLooks}
use Rattle.pyc_names.specs.LookNumbers.{number_of, with_bytes, with_text, with_texts, with_name}
use Rattle.pyc_names.specs.Looks.{Look, of_name, of_module, of_member, of_order}
use Rattle.pyc_names.specs.NotedLooks.{Noted, nothing_noted, everything_noted, numbers_noted, with_looks}
use Rattle.pyc_names.specs.NotedLooksView.{noted_by, kept_numbers, noted_in}
use Rattle.pyc_names.specs.declared.looks.Looks.{Looks as LooksOf}

-- ---- numbers of looks

text_below : (number : ℕ) (text : List ℕ) → with_text number text < 65521
text_below number text = mod_below (with_bytes number text * 257 + 255) 65521 (omega arith)

texts_below : (number : ℕ) (texts : List (List ℕ)) → number < 65521 → with_texts number texts < 65521
texts_below number [] below = below
texts_below number (text ∷ texts) below = texts_below (with_text number text) texts (text_below number text)

-- each look has a flag
pub number_below : (look : Look) → number_of look < 65521
unfolding number_of
number_below (of_module m) = texts_below 1 m (omega arith)
number_below (of_name q) = text_below (with_texts 2 q.module_path) q.name
number_below (of_order c) = text_below (with_texts 3 c.module_path) c.name
number_below (of_member c name) = text_below (with_name 4 c) name

-- ---- flags

or_true : (b : Bool) → true ≡ (b || true)
or_true true = refl
or_true false = refl

or_none : (b : Bool) → b ≡ (b || false)
or_none true = refl
or_none false = refl

-- one more number is flagged
pub flag_set : (flags : List Bool) (number other : ℕ) → flag_at (slice_set flags number true) other ≡ (flag_at flags other || number == other)
flag_set [] number other = refl
flag_set (f ∷ fs) zero zero = or_true f
flag_set (f ∷ fs) zero (suc other) = or_none (flag_at fs other) ∙ ap (λ b. flag_at fs other || b) (sym (eqb-zero-suc other))
flag_set (f ∷ fs) (suc number) zero = or_none f ∙ ap (λ b. f || b) (sym (eqb-suc-zero number))
flag_set (f ∷ fs) (suc number) (suc other) = flag_set fs number other ∙ ap (λ b. flag_at fs other || b) (sym (eqb-suc-suc number other))

-- one that has no flag is flagged before
pub flag_past : (flags : List Bool) (number other : ℕ) → length flags ≤ number → flag_at flags other ≡ (flag_at flags other || number == other)
flag_past flags number other past = ap (λ l. flag_at l other) (sym (set_past flags number true past)) ∙ flag_set flags number other

pub ruleset setting = (flag_set, flag_past)

-- ---- what the code has noted

pub flagged_where_kept : (flags : List Bool) (looks : LooksOf) (numbers : List ℕ) → Some numbers ≡ kept_numbers looks
    → ((number : ℕ) → number < 65521 → flag_at flags number ≡ list_any (λ other. other == number) numbers)
    → (look : Look) → is_flagged flags look ≡ is_noted (noted_in looks) (number_of look)
unfolding noted_in numbers_noted
flagged_where_kept flags looks numbers kept each look =
    each (number_of look) (number_below look) ∙ ap (λ k. is_noted (noted_by k) (number_of look)) kept

pub flagged_where_unkept : (flags : List Bool) (looks : LooksOf) → flags ≡ [] → None ≡ kept_numbers looks
    → (look : Look) → is_flagged flags look ≡ is_noted (noted_in looks) (number_of look)
unfolding noted_in everything_noted
flagged_where_unkept flags looks none kept look =
    ap (λ l. is_flagged l look) none ∙ ap (λ k. is_noted (noted_by k) (number_of look)) kept

-- ---- lists of looks

-- a test of numbers is one of looks
pub any_of_numbers : (test : ℕ → Bool) (looks : List Look) → list_any test (map number_of looks) ≡ list_any (λ look. test (number_of look)) looks
any_of_numbers test [] = refl
any_of_numbers test (look ∷ looks) = ap (λ b. test (number_of look) || b) (any_of_numbers test looks)

-- what is flagged of a list of looks: those whose number is that of one in the list
pub flagged_of_list : (noted : Noted) (looks : List Look) (look : Look) → noted ≡ with_looks nothing_noted looks
    → is_noted noted (number_of look) ≡ list_any (λ other. number_of other == number_of look) looks
unfolding with_looks nothing_noted
flagged_of_list noted looks look is =
    ap (λ noted'. is_noted noted' (number_of look)) is ∙ any_of_numbers (λ number. number == number_of look) looks

-- whether some of all that was noted is flagged
pub any_flagged : (flags : List Bool) (noted : Noted) (looks : List Look) → noted ≡ with_looks nothing_noted looks
    → noted (flag_at flags) ≡ list_any (is_flagged flags) looks
unfolding with_looks nothing_noted
any_flagged flags noted looks is = ap (λ noted'. noted' (flag_at flags)) is ∙ any_of_numbers (flag_at flags) looks

-- of looks that are the same set the same was noted
pub same_noted : (noted : Noted) (looks others : List Look) → SameLooks looks others → with_looks noted looks ≡ with_looks noted others
unfolding with_looks
same_noted noted looks others same =
    λ i test. ap (λ b. noted test || b)
    (any_of_numbers test looks ∙ same (λ look. test (number_of look)) ∙ sym (any_of_numbers test others)) i

-- ---- by the code

pub noted_numbers : (noted : LooksOf) (numbers : List ℕ) (test : ℕ → Bool) → Some numbers ≡ kept_numbers noted
    → list_any test numbers ≡ noted_in noted test
unfolding noted_in numbers_noted
noted_numbers noted numbers test are = ap (λ kept. noted_by kept test) are

pub noted_all : (noted : LooksOf) (test : ℕ → Bool) → None ≡ kept_numbers noted → true ≡ noted_in noted test
unfolding noted_in everything_noted
noted_all noted test are = ap (λ kept. noted_by kept test) are
