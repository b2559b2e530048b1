-- What was noted, one thing after another.
use Rattle.std.proofs.Common.{◌≡◌, ℕ, ◌||◌, Bool, true, false, List, [], ◌∷◌, ◌++◌, map, None, Some, is_some, if◌then◌else◌, refl, sym, ap, ◌∙◌}
use Rattle.std.proofs.lemmas.Bool.{false≢true, true≢false}
use Rattle.std.proofs.lemmas.List.Folds.{list_any-append}
use Rattle.std.specs.List.{list_any}
use Rattle.pyc_names.specs.LookNumbers.{number_of, with_text, with_texts}
use Rattle.pyc_names.specs.Looks.{Look}
use Rattle.pyc_names.specs.NotedLooks.{Noted, everything_noted, numbers_noted, with_looks}
use Rattle.pyc_names.specs.declared.looks.Looks.{Looks as LooksOf}
use Rattle.pyc_names.specs.NotedLooksView.{noted_by, kept_numbers, noted_in}

or_nothing : (b : Bool) → b || false ≡ b
or_nothing true = refl
or_nothing false = refl

or_or : (a b c : Bool) → (a || b) || c ≡ a || (b || c)
or_or true b c = refl
or_or false b c = refl

map_append : (xs ys : List Look) → map number_of (xs ++ ys) ≡ map number_of xs ++ map number_of ys
map_append [] ys = refl
map_append (x ∷ xs) ys = ap (λ l. number_of x ∷ l) (map_append xs ys)

-- no look changes what was noted
pub with_none : (noted : Noted) → with_looks noted [] ≡ noted
unfolding with_looks
with_none noted = λ i test. or_nothing (noted test) i

-- looks after others
pub with_both : (noted : Noted) (xs ys : List Look) → with_looks (with_looks noted xs) ys ≡ with_looks noted (xs ++ ys)
unfolding with_looks
with_both noted xs ys =
    λ i test. (or_or (noted test) (list_any test (map number_of xs)) (list_any test (map number_of ys))
    ∙ ap (λ b. noted test || b) (sym (list_any-append test (map number_of xs) (map number_of ys)))
    ∙ ap (λ l. noted test || list_any test l) (sym (map_append xs ys))) i

pub ruleset noting = (with_none, with_both)

-- ---- by the code

one_noted : (numbers : List ℕ) (look : Look) → numbers_noted (numbers ++ (number_of look ∷ [])) ≡ with_looks (numbers_noted numbers) (look ∷ [])
unfolding with_looks numbers_noted
one_noted numbers look = λ i test. list_any-append test numbers (number_of look ∷ []) i

all_noted : (looks : List Look) → everything_noted ≡ with_looks everything_noted looks
unfolding with_looks everything_noted
all_noted looks = refl

one_kept : (is_kept : Bool) (numbers : List ℕ) (look : Look) → true ≡ is_kept
    → noted_by (if is_kept then Some (numbers ++ (number_of look ∷ [])) else None) ≡ with_looks (noted_by (if is_kept then Some numbers else None)) (look ∷ [])
one_kept true numbers look e = one_noted numbers look
one_kept false numbers look e = absurd (true≢false e)

none_kept : (is_kept : Bool) (numbers : List ℕ) (looks : List Look) → false ≡ is_kept
    → noted_by (if is_kept then Some numbers else None) ≡ with_looks (noted_by (if is_kept then Some numbers else None)) looks
none_kept true numbers looks e = absurd (false≢true e)
none_kept false numbers looks e = all_noted looks

-- one number more
pub pushed : (old new : LooksOf) (look : Look) (number : ℕ) → true ≡ old.is_kept → new.is_kept ≡ old.is_kept → number ≡ number_of look
    → new.numbers.items ≡ old.numbers.items ++ (number ∷ []) → noted_in new ≡ with_looks (noted_in old) (look ∷ [])
unfolding noted_in
pushed old new look number kept same is items =
    ap (λ b. noted_by (if b then Some new.numbers.items else None)) same
    ∙ ap (λ l. noted_by (if old.is_kept then Some l else None)) (items ∙ ap (λ n. old.numbers.items ++ (n ∷ [])) is)
    ∙ one_kept old.is_kept old.numbers.items look kept

-- where no numbers are kept, nothing changes
pub not_kept : (noted : LooksOf) (looks : List Look) → false ≡ noted.is_kept → noted_in noted ≡ with_looks (noted_in noted) looks
unfolding noted_in
not_kept noted looks kept = none_kept noted.is_kept noted.numbers.items looks kept

pub ruleset pushing = (pushed, not_kept)

pub kept_is : (is_kept : Bool) (numbers : List ℕ) → is_kept ≡ is_some (if is_kept then Some numbers else None)
kept_is true numbers = refl
kept_is false numbers = refl

unkept_by : (is_kept : Bool) (numbers : List ℕ) → false ≡ is_some (if is_kept then Some numbers else None) → false ≡ is_kept
unkept_by true numbers e = e
unkept_by false numbers e = refl

-- nor where no numbers are to be had
pub unkept : (noted : LooksOf) (looks : List Look) → false ≡ is_some (kept_numbers noted) → noted_in noted ≡ with_looks (noted_in noted) looks
unkept noted looks kept = not_kept noted looks (unkept_by noted.is_kept noted.numbers.items kept)

-- a text after others
pub texts_append : (number : ℕ) (texts : List (List ℕ)) (text : List ℕ) → with_texts number (texts ++ (text ∷ [])) ≡ with_text (with_texts number texts) text
texts_append number [] text = refl
texts_append number (x ∷ xs) text = texts_append (with_text number x) xs text
