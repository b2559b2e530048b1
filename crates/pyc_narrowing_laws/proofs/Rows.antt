-- Tests of the elements of lists.
use Rattle.std.proofs.Common.{◌≡◌, Bool, true, false, ◌&&◌, ◌||◌, List, [], ◌∷◌, ◌++◌, inl, inr, refl, ap, ◌∙◌}
use Rattle.std.specs.List.{list_any, list_all, flat_map}
use Rattle.std.proofs.lemmas.Bool.{and_from, and_parts, or_cases, or_left, or_right}
use Rattle.std.proofs.lemmas.List.Folds.{list_any-append}

-- ---- two tests

pub or_false : (b : Bool) → b || false ≡ b
or_false true = refl
or_false false = refl

pub or_assoc : (a b c : Bool) → (a || b) || c ≡ a || (b || c)
or_assoc true b c = refl
or_assoc false b c = refl

-- what follows from a test adds nothing to it
pub absorbed : (a b : Bool) → (b ≡ true → a ≡ true) → a ≡ a || b
absorbed true b follows = refl
absorbed false true follows = follows refl
absorbed false false follows = refl

-- ---- some element

pub any-one : {X : Type 0} (p : X → Bool) (x : X) → p x ≡ true → list_any p (x ∷ []) ≡ true
any-one p x here = or_left (p x) false here

pub any-more : {X : Type 0} (p q : X → Bool) → ((x : X) → p x ≡ true → q x ≡ true) → (xs : List X) → list_any p xs ≡ true → list_any q xs ≡ true
any-more p q follows [] some = some
any-more p q follows (x ∷ xs) some = elim (or_cases (p x) (list_any p xs) some) [
  | inl here ↦ or_left (q x) (list_any q xs) (follows x here)
  | inr later ↦ or_right (q x) (list_any q xs) (any-more p q follows xs later)
]

pub any-alike : {X : Type 0} (p q : X → Bool) → ((x : X) → p x ≡ q x) → (xs : List X) → list_any p xs ≡ list_any q xs
any-alike p q alike [] = refl
any-alike p q alike (x ∷ xs) = ap (λ b. b || list_any p xs) (alike x) ∙ ap (λ b. q x || b) (any-alike p q alike xs)

-- some element passes one test, and all pass another
pub any-all : {X : Type 0} (p q : X → Bool) (xs : List X) → list_any p xs ≡ true → list_all q xs ≡ true → list_any (λ x. q x && p x) xs ≡ true
any-all p q [] some all = some
any-all p q (x ∷ xs) some all =
    let parts = and_parts (q x) (list_all q xs) all in
    elim (or_cases (p x) (list_any p xs) some) [
      | inl here ↦ or_left (q x && p x) (list_any (λ y. q y && p y) xs) (and_from (q x) (p x) parts.0 here)
      | inr later ↦ or_right (q x && p x) (list_any (λ y. q y && p y) xs) (any-all p q xs later parts.1)
    ]

-- ---- lists in place of elements

pub any-flat : {X Y : Type 0} (p : Y → Bool) (f : X → List Y) (xs : List X) → list_any p (flat_map f xs) ≡ list_any (λ x. list_any p (f x)) xs
any-flat p f [] = refl
any-flat p f (x ∷ xs) = list_any-append p (f x) (flat_map f xs) ∙ ap (λ b. list_any p (f x) || b) (any-flat p f xs)

-- some element passes a test, and of the list of each that does some element passes another
pub any-flat_from : {X Y : Type 0} (q : X → Bool) (p : Y → Bool) (f : X → List Y) → ((x : X) → q x ≡ true → list_any p (f x) ≡ true)
    → (xs : List X) → list_any q xs ≡ true → list_any p (flat_map f xs) ≡ true
any-flat_from q p f each xs some = any-flat p f xs ∙ any-more q (λ x. list_any p (f x)) each xs some
