-- Loops over a list beside a recursion on what is left of it.
use Rattle.std.proofs.Common.{◌≡◌, refl, ap, sym, ◌∙◌, ℕ, suc, ◌+◌, ◌<◌, ◌≤◌, Bool, true, false, ◌||◌, List, [], ◌∷◌, length, get_or, Option, None, Some, drop, ◌++◌, append_assoc, map, drop-cons, add-one}
use Rattle.std.specs.List.{cons_option}
use Rattle.std.proofs.Math.ListN.{drop_of_length-le}
use Rattle.std.proofs.lemmas.List.{map-append, append-nil}

-- the item at an index, and those after it
pub drop_at : {A : Type 0} (xs : List A) (i : ℕ) (x : A) → i < length xs → x ≡ get_or xs i x → drop i xs ≡ x ∷ drop (i + 1) xs
drop_at xs i x below is = rw (add-one, drop-cons xs i x below) (ap (λ y. y ∷ drop (suc i) xs) (sym is))

-- no item is left
pub no_more : {A B : Type 0} (f : List A → B) (xs : List A) (i : ℕ) {whole : B} → length xs ≤ i → f (drop i xs) ≡ whole → f [] ≡ whole
no_more f xs i past e = ap f (sym (drop_of_length-le xs past)) ∙ e

or_true : (a b : Bool) → a ≡ true → a || b ≡ true
or_true true b e = refl
or_true false b e = cc

or_false : (a b : Bool) → a ≡ false → a || b ≡ b
or_false false b e = refl
or_false true b e = cc

-- a search finds the item at an index
pub found_at : {A : Type 0} (f : List A → Bool) (g : A → Bool) → ((x : A) (xs : List A) → f (x ∷ xs) ≡ g x || f xs)
    → (xs : List A) (i : ℕ) (x : A) {whole : Bool} → i < length xs → x ≡ get_or xs i x → g x ≡ true → f (drop i xs) ≡ whole → true ≡ whole
found_at f g step xs i x below is holds e = sym (or_true (g x) (f (drop (i + 1) xs)) holds) ∙ sym (step x (drop (i + 1) xs)) ∙ ap f (sym (drop_at xs i x below is)) ∙ e

-- a search goes on past the item at an index
pub passed_at : {A : Type 0} (f : List A → Bool) (g : A → Bool) → ((x : A) (xs : List A) → f (x ∷ xs) ≡ g x || f xs)
    → (xs : List A) (i : ℕ) (x : A) {whole : Bool} → i < length xs → x ≡ get_or xs i x → g x ≡ false → f (drop i xs) ≡ whole → f (drop (i + 1) xs) ≡ whole
passed_at f g step xs i x below is fails e = sym (or_false (g x) (f (drop (i + 1) xs)) fails) ∙ sym (step x (drop (i + 1) xs)) ∙ ap f (sym (drop_at xs i x below is)) ∙ e

-- a list is made item by item: the item at an index is put behind those that were made
pub pushed_at : {A B : Type 0} (f : List A → List B) (h : A → B) → ((x : A) (xs : List A) → f (x ∷ xs) ≡ h x ∷ f xs)
    → (xs : List A) (i : ℕ) (x : A) (found : List B) {new whole : List B} → i < length xs → x ≡ get_or xs i x → found ++ f (drop i xs) ≡ whole → new ≡ found ++ (h x ∷ []) → new ++ f (drop (i + 1) xs) ≡ whole
pushed_at f h step xs i x found {new} below is e made =
    ap (λ all. all ++ f (drop (i + 1) xs)) made ∙ append_assoc found (h x ∷ []) (f (drop (i + 1) xs))
    ∙ ap (λ rest. found ++ rest) (sym (step x (drop (i + 1) xs)) ∙ ap f (sym (drop_at xs i x below is))) ∙ e

-- what is seen of a list behind which an item was put
pub pushed : {A B : Type 0} (view : A → B) (old new : List A) (y : A) {z : B} → new ≡ old ++ (y ∷ []) → view y ≡ z → map view new ≡ map view old ++ (z ∷ [])
pushed view old new y e is = ap (map view) e ∙ map-append view old (y ∷ []) ∙ ap (λ z. map view old ++ (z ∷ [])) is

-- no item is left, and none comes after them
pub ended_at : {A B : Type 0} (f : List A → List B) (xs : List A) (i : ℕ) (found : List B) {whole : List B} → length xs ≤ i → found ++ f (drop i xs) ≡ whole → f [] ≡ [] → found ≡ whole
ended_at f xs i found past e nothing = sym (append-nil found) ∙ ap (λ rest. found ++ rest) (sym nothing) ∙ no_more (λ rest. found ++ f rest) xs i past e

-- no item is left, and the rest comes after them
pub last_at : {A B : Type 0} (f : List A → List B) (xs : List A) (i : ℕ) (found : List B) {whole new rest : List B} → length xs ≤ i → found ++ f (drop i xs) ≡ whole → f [] ≡ rest → new ≡ found ++ rest → new ≡ whole
last_at f xs i found past e last made = made ∙ ap (λ end. found ++ end) (sym last) ∙ no_more (λ rest. found ++ f rest) xs i past e

-- what is not there is none
pub none_left : {A : Type 0} (x : Option A) → ((y : A) → x ≡ Some y → ⊥) → x ≡ None
none_left None out = refl
none_left (Some y) out = absurd (out y refl)

cons_before : {A : Type 0} (x : Option A) (xs : List A) → cons_option x xs ≡ cons_option x [] ++ xs
cons_before None xs = refl
cons_before (Some x) xs = refl

-- a list is made of at most one item each, with a state: what the item at an index is, is put behind those that were
-- made
pub put_at : {A B S : Type 0} (f : S → List A → List B) (m : S → A → Option B) (next : S → A → S) → ((s : S) (x : A) (xs : List A) → f s (x ∷ xs) ≡ cons_option (m s x) (f (next s x) xs))
    → (xs : List A) (i : ℕ) (x : A) (s after : S) (found : List B) {new whole : List B} → i < length xs → x ≡ get_or xs i x → found ++ f s (drop i xs) ≡ whole
    → new ≡ found ++ cons_option (m s x) [] → after ≡ next s x → new ++ f after (drop (i + 1) xs) ≡ whole
put_at f m next step xs i x s after found {new} below is e made then_is =
    let rest = f (next s x) (drop (i + 1) xs) in
    ap (λ found. found ++ f after (drop (i + 1) xs)) made ∙ ap (λ state. (found ++ cons_option (m s x) []) ++ f state (drop (i + 1) xs)) then_is
    ∙ append_assoc found (cons_option (m s x) []) rest
    ∙ ap (λ end. found ++ end) (sym (cons_before (m s x) rest) ∙ sym (step s x (drop (i + 1) xs)) ∙ ap (f s) (sym (drop_at xs i x below is))) ∙ e

-- nothing is made yet, and every item is left
pub started_at : {A B C : Type 0} (view : C → B) (f : List A → List B) (found : List C) (all each : List A) {whole : List B} → found ≡ [] → all ≡ each → f each ≡ whole → map view found ++ f (drop 0 all) ≡ whole
started_at view f found all each none same e = ap (λ xs. map view xs ++ f (drop 0 all)) none ∙ ap f same ∙ e

-- a list is made item by item: what the item at index `i` is, is put behind `found`, and then `f'` makes the rest
pub turned_at : {A B : Type 0} (f f' : List A → List B) (h : A → B) → ((x : A) (xs : List A) → f (x ∷ xs) ≡ h x ∷ f' xs)
    → (xs : List A) (i : ℕ) (x : A) (found : List B) {new whole : List B} → i < length xs → x ≡ get_or xs i x → found ++ f (drop i xs) ≡ whole → new ≡ found ++ (h x ∷ []) → new ++ f' (drop (i + 1) xs) ≡ whole
turned_at f f' h step xs i x found {new} below is e made =
    ap (λ all. all ++ f' (drop (i + 1) xs)) made ∙ append_assoc found (h x ∷ []) (f' (drop (i + 1) xs))
    ∙ ap (λ rest. found ++ rest) (sym (step x (drop (i + 1) xs)) ∙ ap f (sym (drop_at xs i x below is))) ∙ e
