-- Loops that put a list behind what was made, and loops that look for the first item of a kind.
use Rattle.std.proofs.Common.{◌≡◌, refl, ap, sym, ◌∙◌, ℕ, ◌+◌, ◌<◌, Bool, true, false, if◌then◌else◌, List, [], ◌∷◌, length, get_or, Option, None, Some, drop, ◌++◌, append_assoc, arith}
use Rattle.std.proofs.lemmas.List.{append-nil}
use Rattle.std.specs.List.{cons_option}
use Rattle.pyc_lower_expression.proofs.Loops.{drop_at}

-- what one item may be stands before the others
pub cons_first : {A : Type 0} (x : Option A) (xs : List A) → cons_option x xs ≡ cons_option x [] ++ xs
cons_first None xs = refl
cons_first (Some x) xs = refl

-- a list is made list by list: what the first of the items that are left is, is put behind those that were made
pub joined_next : {A B : Type 0} (f : List A → List B) (h : A → List B) → ((x : A) (xs : List A) → f (x ∷ xs) ≡ h x ++ f xs)
    → (left : List A) (x : A) (rest : List A) (found : List B) {new whole : List B} → left ≡ x ∷ rest → found ++ f left ≡ whole → new ≡ found ++ h x → new ++ f rest ≡ whole
joined_next f h step left x rest found is e made =
    ap (λ all. all ++ f rest) made ∙ append_assoc found (h x) (f rest)
    ∙ ap (λ more. found ++ more) (sym (step x rest) ∙ ap f (sym is)) ∙ e

-- a list is made list by list: what the item at index `i` is, is put behind `found`
pub joined_at : {A B : Type 0} (f : List A → List B) (h : A → List B) → ((x : A) (xs : List A) → f (x ∷ xs) ≡ h x ++ f xs)
    → (xs : List A) (i : ℕ) (x : A) (found : List B) {new whole : List B} → i < length xs → x ≡ get_or xs i x → found ++ f (drop i xs) ≡ whole → new ≡ found ++ h x → new ++ f (drop (i + 1) xs) ≡ whole
joined_at f h step xs i x found below is e made = joined_next f h step (drop i xs) x (drop (i + 1) xs) found (drop_at xs i x below is) e made

no_item : {A : Type 0} (xs : List A) → length xs ≡ 0 → xs ≡ []
no_item [] none = refl
no_item (x ∷ xs) none = absurd (omega arith)

-- no item is left
pub joined_end : {A B : Type 0} (f : List A → List B) (left : List A) (found : List B) {whole : List B} → length left ≡ 0 → f [] ≡ [] → found ++ f left ≡ whole → found ≡ whole
joined_end f left found none nothing e =
    sym (append-nil found) ∙ ap (λ more. found ++ more) (sym nothing ∙ ap f (sym (no_item left none))) ∙ e

if_true : {B : Type 0} (test : Bool) (here there : B) → test ≡ true → (if test then here else there) ≡ here
if_true true here there e = refl
if_true false here there e = cc

if_false : {B : Type 0} (test : Bool) (here there : B) → test ≡ false → (if test then here else there) ≡ there
if_false false here there e = refl
if_false true here there e = cc

-- the item at an index is of the kind
pub chosen_at : {A B : Type 0} (f : List A → B) (test : A → Bool) (h : A → B) → ((x : A) (xs : List A) → f (x ∷ xs) ≡ (if test x then h x else f xs))
    → (xs : List A) (i : ℕ) (x : A) {whole : B} → i < length xs → x ≡ get_or xs i x → test x ≡ true → f (drop i xs) ≡ whole → h x ≡ whole
chosen_at f test h step xs i x below is holds e =
    sym (if_true (test x) (h x) (f (drop (i + 1) xs)) holds) ∙ sym (step x (drop (i + 1) xs)) ∙ ap f (sym (drop_at xs i x below is)) ∙ e

-- the item at an index is none of the kind
pub skipped_at : {A B : Type 0} (f : List A → B) (test : A → Bool) (h : A → B) → ((x : A) (xs : List A) → f (x ∷ xs) ≡ (if test x then h x else f xs))
    → (xs : List A) (i : ℕ) (x : A) {whole : B} → i < length xs → x ≡ get_or xs i x → test x ≡ false → f (drop i xs) ≡ whole → f (drop (i + 1) xs) ≡ whole
skipped_at f test h step xs i x below is fails e =
    sym (if_false (test x) (h x) (f (drop (i + 1) xs)) fails) ∙ sym (step x (drop (i + 1) xs)) ∙ ap f (sym (drop_at xs i x below is)) ∙ e
